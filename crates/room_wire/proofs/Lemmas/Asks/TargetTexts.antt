-- The parts of a target that is ASCII are UTF-8.
use Rattle.room_wire.proofs.Common.{◌≡◌, ℕ, ◌-◌, ◌&&◌, Bool, true, false, List, [], ◌∷◌, length, cond, leb, take, drop}
use Rattle.room_wire.proofs.Common.{nat_lt, AllByRecursion, list_all, IsAscii, and_parts, ltb-true, IsUtf8-from_ascii}
use Rattle.room_wire.proofs.Common.{IsUtf8-nil, IsAscii-take, IsAscii-drop, walk, wild_from, wild_stop, after_token}
use Rattle.room_wire.proofs.Common.{is_ascii}
use Rattle.std.specs.Str.{IsUtf8}
use Rattle.std.proofs.lemmas.Str.Ascii.{IsAscii-nil, IsAscii-cons}

pub ascii_by : (text : List ℕ) → is_ascii text ≡ true → IsAscii text
ascii_by [] h = IsAscii-nil
ascii_by (b ∷ text) h =
    let parts = and_parts (nat_lt b 128) (list_all (λ c. nat_lt c 128) text) h in
    IsAscii-cons b text (ltb-true b 128 parts.0) (ascii_by text parts.1)

part_text : (target : List ℕ) (start end : ℕ) (fits : Bool) → IsAscii target
    → IsUtf8 (cond fits (take (end - start) (drop start target)) [])
part_text target start end true h =
    IsUtf8-from_ascii _ (IsAscii-take (drop start target) (end - start) (IsAscii-drop target start h))
part_text target start end false h = IsUtf8-nil

texts : (pattern text target : List ℕ) (names : List (ℕ × ℕ)) (token at : ℕ) → IsAscii target
    → AllByRecursion (λ (p : List ℕ × List ℕ). IsUtf8 p.1) (walk pattern text target names token at)
texts pattern text target [] token at h = tt
texts pattern text target (name ∷ names) token at h =
    let w = wild_from (drop token pattern) (length target) token at in
    let stop = wild_stop pattern w.0 target w.1 in (
      part_text target w.1 stop (leb w.1 stop && leb stop (length target)) h,
      texts pattern text target names (after_token w.0) stop h,
    )

pub walk_texts : (pattern text target : List ℕ) (names : List (ℕ × ℕ)) → is_ascii target ≡ true
    → AllByRecursion (λ (p : List ℕ × List ℕ). IsUtf8 p.1) (walk pattern text target names 0 0)
walk_texts pattern text target names h = texts pattern text target names 0 0 (ascii_by target h)
