-- The own entries of a whole list: those without the mark.
use Rattle.room_tree.proofs.Common.{◌≡◌, ℕ, refl, ap, sym, ◌∙◌, Bool, true, false, not, cond, ◌⊎◌, inl, inr, List, []}
use Rattle.room_tree.proofs.Common.{◌∷◌, ◌++◌, append-nil, Some, list_all, and_parts, Kind, is_inherited, EntryModel}
use Rattle.room_tree.proofs.Common.{handed_down, own_part, with_inherited, Path, Object, Room, IsRoom, object_at}
use Rattle.room_tree.proofs.Common.{list_of, follows, list_of_child, list_of_root, Ends, ends, object_there_is_lawful}
use Rattle.std.proofs.lemmas.List.Elements.{filter-append}
use Rattle.room_acl.proofs.Travelling.{hands_down_marked}

abbrev pub is_own : EntryModel → Bool
is_own entry = not (is_inherited entry.flags)

-- a path is the root's, or has a last name
pub root_or_below : (path : Path) → (path ≡ []) ⊎ Ends path
root_or_below [] = inl refl
root_or_below (first ∷ rest) = inr (ends first rest)

-- entries without the mark are all own
pub own_part_of_own : (entries : List EntryModel) → list_all is_own entries ≡ true → own_part entries ≡ entries
own_part_of_own [] all = refl
own_part_of_own (entry ∷ rest) all =
    let each = and_parts (is_own entry) (list_all is_own rest) all in
    ap (λ b. cond b (entry ∷ own_part rest) (own_part rest)) each.0 ∙ ap (λ l. entry ∷ l) (own_part_of_own rest each.1)

-- entries with the mark are none
pub own_part_of_marked : (entries : List EntryModel)
    → list_all (λ entry. is_inherited entry.flags) entries ≡ true → own_part entries ≡ []
own_part_of_marked [] all = refl
own_part_of_marked (entry ∷ rest) all =
    let each = and_parts (is_inherited entry.flags) (list_all (λ (e : EntryModel). is_inherited e.flags) rest) all in
    ap (λ b. cond (not b) (entry ∷ own_part rest) (own_part rest)) each.0 ∙ own_part_of_marked rest each.1

own_part_inherited : (b : Bool) (kind : Kind) (above : List EntryModel)
    → own_part (cond b (handed_down above kind) []) ≡ []
own_part_inherited true kind above = own_part_of_marked (handed_down above kind) (hands_down_marked above kind)
own_part_inherited false kind above = refl

-- what is handed down has the mark, so the own entries can be told from it
pub own_part_with_inherited : (own : List EntryModel) (aclflag : ℕ) (kind : Kind) (above : List EntryModel)
    → list_all is_own own ≡ true
    → own_part (with_inherited own aclflag kind above) ≡ own
own_part_with_inherited own aclflag kind above all =
    filter-append is_own own (cond (follows aclflag) (handed_down above kind) [])
    ∙ ap (λ l. own_part own ++ l) (own_part_inherited (follows aclflag) kind above)
    ∙ append-nil (own_part own)
    ∙ own_part_of_own own all

-- the own entries of an object are those of its list without the mark
pub own_part_of_list : (room : Room) → IsRoom room → (path : Path) (o : Object)
    → object_at room path ≡ Some o → own_part (list_of room path) ≡ o.own
own_part_of_list room lawful path o there =
    let all = (object_there_is_lawful room lawful path o there).own_entries in
    elim (root_or_below path) [
      | inl root ↦
          ap (λ p. own_part (list_of room p)) root
          ∙ ap own_part (list_of_root room o (ap (object_at room) (sym root) ∙ there)) ∙ own_part_of_own o.own all
      | inr end ↦
          ap (λ p. own_part (list_of room p)) end.is
          ∙ ap own_part (list_of_child room end.folder end.name o (ap (object_at room) (sym end.is) ∙ there))
          ∙ own_part_with_inherited o.own o.aclflag o.kind (list_of room end.folder) all
    ]
