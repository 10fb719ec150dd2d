-- Rooms that differ in how many numbers are left alone (our own rules).
use Rattle.std.specs.Prelude.{◌≡◌, ℕ, ◌+◌}
use Rattle.room_records.specs.Room.{Room}
use Rattle.room_commands.specs.declared.reply.RefusalCode.TheVariants.{RoomFull}
use Rattle.room_commands.specs.ReplyModel.{ReplyModel, NotDone}
use Rattle.room_commands.specs.Checks.{refusal_without_place}

-- the room with more numbers left
abbrev pub with_more : ℕ → Room → Room
with_more more room = record room { left = room.left + more }

abbrev pub IsRoomFull : ReplyModel → Type 0
IsRoomFull reply = reply ≡ NotDone (refusal_without_place RoomFull)
