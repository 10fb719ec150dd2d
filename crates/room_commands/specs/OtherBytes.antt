-- Rooms, commands and replies with other bytes in files, as many as before (our own rules).
use Rattle.std.specs.Prelude.{ℕ, map}
use Rattle.room_records.specs.Names.{Path}
use Rattle.room_records.specs.Room.{Object, Room}
use Rattle.room_commands.specs.CommandModel.{CommandModel}
use Rattle.room_commands.specs.CommandModel as C
use Rattle.room_commands.specs.ReplyModel.{ReplyModel, Bytes}

-- the room with `new b` for each byte b of its files
abbrev pub room_with : (ℕ → ℕ) → Room → Room
room_with new room = record room {
  objects = map (λ (e : Path × Object). (e.0, record e.1 { bytes = map new e.1.bytes })) room.objects;
}

-- and a command, with each byte that it is to write
abbrev pub command_with : (ℕ → ℕ) → CommandModel → CommandModel
command_with new (C.Create bytes path) = C.Create (map new bytes) path
command_with new (C.Write bytes path) = C.Write (map new bytes) path
command_with new (C.Append bytes path) = C.Append (map new bytes) path
command_with new command = command

-- and a reply, with each byte that was read
abbrev pub reply_with : (ℕ → ℕ) → ReplyModel → ReplyModel
reply_with new (Bytes bytes) = Bytes (map new bytes)
reply_with new reply = reply

-- every byte becomes 0: what is left is how many there are
abbrev pub blank : ℕ → ℕ
blank byte = 0
