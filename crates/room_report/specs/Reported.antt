-- What is said of a report over a shelf, whatever the fault that it may end with.
use Rattle.std.specs.Prelude.{ℕ, List, Option, Result, OnOk}
use Rattle.std.specs.Io.KnownBytes.{Appends}
use Rattle.room_records.specs.Room.{Room}
use Rattle.room_records.specs.Representation.{RepresentsRoom}
use Rattle.room_records.specs.Shelf.{View}
use Rattle.room_records.specs.Writers.{AppendsFront}

-- done means that the whole text of the rows was written; else a beginning of it was
pub record Reported {X E : Type 0} (text : Room → List ℕ) (before after : View)
    (old new : Option (List ℕ)) (done : Result X E) : Type 0 where
  pub ok : after.is_intact → before.is_laid_out → (room : Room) → RepresentsRoom before.records.objects room →
      OnOk done (Appends old new (text room))
  pub beginning : after.is_intact → before.is_laid_out → (room : Room) → RepresentsRoom before.records.objects room →
      AppendsFront old new (text room)
  pub there : after.is_intact → OnOk done after.is_available
