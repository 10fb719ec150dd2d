-- A trial slot holds its accepted pieces, and goes on holding them.
use Rattle.std.proofs.Common.{◌≡◌, List, length}
use Rattle.room_slots.specs.TrialModel.{TrialModel}
use Rattle.room_slots.specs.Accepted.{Piece, bytes_of}
use Rattle.room_slots.proofs.Counts.{KeepsCount}

-- the document is the bytes of the accepted pieces, and the number kept is their count
pub record Holds (trial : TrialModel) (pieces : List Piece) : Type 0 where
  pub doc : trial.doc ≡ bytes_of pieces
  pub count : KeepsCount trial.kept (length pieces)
