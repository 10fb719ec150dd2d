-- What rows show of entries.
use Rattle.room_tables.proofs.Common.{◌≡◌, ◌≢◌, ◌++◌, ◌∙◌, ℕ, pos, Bool, true, false, List, [], ◌∷◌, refl, ap}
use Rattle.room_tables.proofs.Common.{AllByRecursion, Int, Text, Row, column, who_text, type_of, flag_of, ShowsEntry}
use Rattle.std.specs.Prelude.{IsUtf8, not}
use Rattle.room_acl.proofs.WhoTexts.{who_utf8}

-- ---- a row without a part of an entry shows none

its_type : (allow : Bool) → type_of allow ≡ flag_of (not allow)
its_type true = refl
its_type false = refl

pub no_type : (row : Row) → ((flag : Bool) → column row 1 ≢ Int (pos (flag_of flag))) → ¬ ShowsEntry row
no_type row bad it =
    bad (not it.entry.allow) (ap (λ (r : Row). column r 1) it.is ∙ ap (λ n. Int (pos n)) (its_type it.entry.allow))

pub no_text : (row : Row) → ((text : List ℕ) → IsUtf8 text → column row 4 ≢ Text text) → ¬ ShowsEntry row
no_text row bad it =
    bad (who_text it.entry.who) (who_utf8 it.entry.who it.lawful.who) (ap (λ (r : Row). column r 4) it.is)

-- ---- of rows that show entries, the one behind some shows one

pub next_shows : (rows : List Row) (row : Row) (more : List Row)
    → AllByRecursion ShowsEntry ((rows ++ row ∷ []) ++ more) → ShowsEntry row
next_shows [] row more all = all.0
next_shows (r ∷ rows) row more all = next_shows rows row more all.1
