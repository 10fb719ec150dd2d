use Rattle.room_commands.proofs.RoomLaws.{read_after_write, read_after_append}
use Rattle.room_commands.proofs.laws.a_read_gives_what_was_written.Goals as goal

pub returns-clause-written : goal.returns-clause-written
returns-clause-written c = read_after_write

pub returns-clause-appended : goal.returns-clause-appended
returns-clause-appended c = read_after_append
