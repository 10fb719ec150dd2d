-- Which pieces a slot accepts, by count: nothing here knows what a slot keeps.
use Rattle.std.specs.Prelude.{ℕ, ◌==◌, List, [], ◌∷◌, ◌++◌, length, fold, flat_map, if◌then◌else◌}
use Rattle.room_slots.specs.Slots.{next_number}

-- bytes to be appended, and the number that they are sent with
pub record Piece : Type 0 where
  pub seq : ℕ
  pub bytes : List ℕ

-- the accepted pieces, with one that is sent after them: it is accepted where its number is one
-- more than their count, modulo 2^32
abbrev pub accepted_with : List Piece → Piece → List Piece
accepted_with accepted piece =
    if piece.seq == next_number (length accepted) then accepted ++ piece ∷ [] else accepted

-- the accepted ones of all the pieces that are sent to a fresh slot, in their order
abbrev pub accepted : List Piece → List Piece
accepted pieces = fold accepted_with [] pieces

-- the bytes of pieces, one after another
abbrev pub bytes_of : List Piece → List ℕ
bytes_of pieces = flat_map (λ piece. piece.bytes) pieces
