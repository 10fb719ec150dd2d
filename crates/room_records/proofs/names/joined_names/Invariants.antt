use Rattle.room_records.proofs.Common.{◌≡◌, ◌∷◌, take, string_bytes, flat_map}
use Rattle.room_records.proofs.names.joined_names.Given as goal

abbrev pub invariant-loop-name : goal.invariant-loop-name
invariant-loop-name l = string_bytes l.text ≡ flat_map (λ n. 47 ∷ n) (take l.name-index l.names)
