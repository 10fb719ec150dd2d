-- Histories of rooms that differ in how many numbers are left alone, and a room that is put anew (our own rules).
use Rattle.std.specs.Prelude.{◌≡◌, ⊤, true, [], ◌∷◌}
use Rattle.room_records.specs.Room.{Room}
use Rattle.room_commands.specs.Effect.{effect}
use Rattle.room_commands.specs.Made.{IsRoomFull}
use Rattle.room_wire.specs.Asks.EventModel.{Open, Close, Slot}
use Rattle.room_desk.specs.History.{History, is_accepted, state_after}

-- no request that the history accepts is answered ROOM_FULL
abbrev pub NeverFull : Room → History → Type 0
NeverFull start [] = ⊤
NeverFull start (Slot q ∷ past) = (is_accepted past q ≡ true
    → IsRoomFull (effect (state_after start past) q.caller q.command).reply → ⊥) × NeverFull start past
NeverFull start (event ∷ past) = NeverFull start past

-- each OPEN of a history with a CLOSE right after it, and no request
abbrev pub ended : History → History
ended [] = []
ended (Open caller sid slots ∷ past) = Close caller sid ∷ Open caller sid slots ∷ ended past
ended (event ∷ past) = ended past
