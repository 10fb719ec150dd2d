use Rattle.room_commands.proofs.OtherBytes.{same_room, same_reply, read_alone}
use Rattle.room_commands.proofs.laws.bytes_reach_answers_by_read_alone.Goals as goal

pub returns-clause-room : goal.returns-clause-room
returns-clause-room c = same_room

pub returns-clause-reply : goal.returns-clause-reply
returns-clause-reply c = same_reply

pub returns-clause-read : goal.returns-clause-read
returns-clause-read c = read_alone
