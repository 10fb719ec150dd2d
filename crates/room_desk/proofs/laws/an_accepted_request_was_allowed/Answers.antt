use Rattle.room_desk.proofs.Allowed.{had_rights}
use Rattle.room_desk.proofs.laws.an_accepted_request_was_allowed.Goals as goal

pub returns : goal.returns
returns c = had_rights
