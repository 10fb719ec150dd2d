use Rattle.room_wire.proofs.Lemmas.Forms.Base64.{written_as_the_standard, read_as_the_standard}
use Rattle.room_wire.proofs.forms.laws.base64_is_the_standards.Goals as goal

pub returns-clause-written : goal.returns-clause-written
returns-clause-written c = written_as_the_standard

pub returns-clause-read : goal.returns-clause-read
returns-clause-read c = read_as_the_standard
