use Rattle.room_sql.proofs.Common.{◌≡◌, ◌≤◌, ◌∙◌, ℕ, List, [], ◌∷◌, length, Some, refl, sym, ap, arith, name_of_text}
use Rattle.room_records.proofs.PathParts.{name_parts}
use Rattle.room_sql.proofs.values.name_text.Goals as goal

-- a text that is not empty is a name
some_name : (text : List ℕ) → 1 ≤ length text → name_of_text text ≡ Some text
some_name [] h = absurd (omega (arith, h))
some_name (b ∷ text) h = refl

pub returns-in-Some : goal.returns-in-Some
returns-in-Some c =
    some_name _ (name_parts c.text.result.now (rw c.text.ensures.value c.text.ensures.lawful)).some
    ∙ ap Some c.text.ensures.value ∙ sym c.in-Some.is
