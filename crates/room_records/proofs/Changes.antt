-- Changes one after another.
use Rattle.room_records.proofs.Common.{◌≡◌, refl, List, [], ◌∷◌, ◌++◌, Change, Records, apply_change, apply_changes}

-- one more change at the end
pub changes_then : (changes : List Change) (last : Change) (r : Records)
    → apply_changes (changes ++ last ∷ []) r ≡ apply_change last (apply_changes changes r)
changes_then [] last r = refl
changes_then (change ∷ changes) last r = changes_then changes last (apply_change change r)
