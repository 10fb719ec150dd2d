-- The deletes that set nothing off, and the inserts.
use Rattle.room_tables.proofs.Common.{◌≡◌, ◌==◌, ℕ, suc, Bool, true, false, length, pos, List, [], ◌∷◌, ◌++◌, map, drop}
use Rattle.room_tables.proofs.Common.{Ok, refl, ap, ap₂, ◌∙◌, ◌/◌, filter_map, Null, Int, Text, Row, everything, Work}
use Rattle.room_tables.proofs.Common.{work_by, deed_for, pairs, works, parent_key, cast_row, Enforced, Term, understood}
use Rattle.room_tables.proofs.Common.{Insert, Values, stamped, value_rows, State, Executes, Layout, Fresh, Upgraded}
use Rattle.room_tables.proofs.Common.{room_schema, entry_table, slots_table, slots_tree, slots_place, has, has_text}
use Rattle.room_tables.proofs.Common.{EntryModel, type_of, shown_as, IsKeyed}
use Rattle.std.specs.List.{flat_map}
use Rattle.room_tables.proofs.Each.{slots_placed, slots_seen}
use Rattle.room_tables.proofs.Texts as T
use Rattle.room_tables.proofs.Meaning.{Means, drop_slots_means}
use Rattle.room_tables.proofs.Queries.{and_true}
use Rattle.room_tables.proofs.Changes.{Added, Leaves, without, cleared, unnumbered, inserted_all, cast_null, cast_int}

-- what is set off by rows of a table that went, and by those that came
abbrev pub set_off : Layout → ℕ → ℕ → List (Row × Row) → Bool → List Work
set_off l depth tree moves deletes = flat_map (λ child. filter_map (λ ref. work_by depth tree moves child ref
    (deed_for Enforced deletes ref) (parent_key (room_schema l).tables ref)) child.references) (room_schema l).tables

-- a fact of the tables to which none refers
pub record OfUnreferred (l : Layout) (P : ℕ → Type 0) : Type 0 where
  pub room : P 0
  pub entry : P 3
  pub doc : P 5
  pub slots : P (slots_tree l)

none_set_off : (l : Layout) (depth : ℕ) (moves : List (Row × Row)) (deletes : Bool)
    → OfUnreferred l (λ tree. set_off l depth tree moves deletes ≡ [])
unfolding everything
none_set_off Fresh depth moves true = record { room = refl; entry = refl; doc = refl; slots = refl }
none_set_off Fresh depth moves false = record { room = refl; entry = refl; doc = refl; slots = refl }
none_set_off Upgraded depth moves true = record { room = refl; entry = refl; doc = refl; slots = refl }
none_set_off Upgraded depth moves false = record { room = refl; entry = refl; doc = refl; slots = refl }

pub quiet : (l : Layout) (depth : ℕ) (olds news : List Row)
    → OfUnreferred l (λ tree. works (room_schema l) Enforced depth tree olds news ≡ [])
quiet l depth olds news = none_set_off l depth (pairs olds news) (length news == 0)

pub drops_entries : (l : Layout) (old new : State) (id count : ℕ) → old.now.schema ≡ room_schema l
    → IsKeyed (old.now.trees 3) → Executes T.drop_entries_text (Int (pos id) ∷ []) old new (Ok count)
    → Leaves l old.now new.now 3 (without (has 1 id) (old.now.trees 3))
unfolding understood everything
drops_entries l old new id count schema keyed h =
    cleared l old new 2 entry_table T.drop_entries_text (Int (pos id) ∷ []) _ count (has 1 id)
    refl schema keyed (refl, (refl, refl)) refl (λ olds. (quiet l 0 olds []).entry) (λ r. and_true (has 1 id r)) h

pub drops_slots : (l : Layout) (old new : State) (sid : List ℕ) (count : ℕ) → old.now.schema ≡ room_schema l
    → IsKeyed (old.now.trees (slots_tree l)) → Executes T.drop_slots_text (Text sid ∷ []) old new (Ok count)
    → Leaves l old.now new.now (slots_tree l) (without (has_text 1 sid) (old.now.trees (slots_tree l)))
drops_slots l old new sid count schema keyed h =
    cleared l old new (slots_place l) (slots_table l) T.drop_slots_text (Text sid ∷ [])
    (T.drop_slots_query 8).filter count
    (has_text 1 sid) (slots_placed l) schema keyed (drop_slots_means l)
    (slots_seen l old.now.trees) (λ olds. (quiet l 0 olds []).slots) (λ r. and_true (has_text 1 sid r)) h

-- entries at places from a number on, as they are stored
abbrev pub stored : ℕ → ℕ → List EntryModel → List Row
stored node at [] = []
stored node at (e ∷ es) = (Int (pos node) ∷ shown_as at e) ∷ stored node (suc at) es

-- and one after the other, as the parameters of an INSERT of them behind the node's number
abbrev pub bound_entries : ℕ → List EntryModel → Row
bound_entries at [] = []
bound_entries at (e ∷ es) = shown_as at e ++ bound_entries (suc at) es

pub cast_stored : (node at : ℕ) (es : List EntryModel)
    → map (λ row. cast_row entry_table (drop 0 row)) (unnumbered (stored node at es)) ≡ unnumbered (stored node at es)
cast_stored node at [] = refl
cast_stored node at (e ∷ es) = ap₂ (λ row rows. row ∷ rows) one (cast_stored node (suc at) es)
  where
    one : cast_row entry_table (Null ∷ Int (pos node) ∷ shown_as at e) ≡ Null ∷ Int (pos node) ∷ shown_as at e
    one = rw (
      cast_null,
      cast_int (pos node),
      cast_int (pos at),
      cast_int (pos (type_of e.allow)),
      cast_int (pos e.flags),
      cast_int (pos e.mask),
    ) refl

-- what an INSERT of entries does, where its text means that
abbrev pub AddsEntries : Layout → List ℕ → ℕ → ℕ → List EntryModel → Type 1
AddsEntries l text node at es = (old new : State) (count : ℕ) → old.now.schema ≡ room_schema l
    → Executes text (Int (pos node) ∷ bound_entries at es) old new (Ok count)
    → Added l old.now new.now 3 (stored node at es)

adds_entries : (l : Layout) (node at : ℕ) (es : List EntryModel) (text : List ℕ) (terms : List Term)
    → Means (room_schema l) text (Insert 2 (Values terms 7))
    → value_rows (stamped entry_table (Int (pos node) ∷ bound_entries at es)) 7 (length terms / 7) terms
    ≡ unnumbered (stored node at es) → AddsEntries l text node at es
adds_entries l node at es text terms means given old new count schema h =
    inserted_all l old new 2 entry_table text (Int (pos node) ∷ bound_entries at es) (stored node at es) terms 7 count
    refl schema refl means (λ news. (quiet l 0 [] news).entry)
    (ap (map (λ row. cast_row entry_table (drop 0 row))) given ∙ cast_stored node at es) h

pub adds_one : (l : Layout) (node at : ℕ) (a : EntryModel) → AddsEntries l T.add_entry_text node at (a ∷ [])
unfolding understood everything
adds_one l node at a = adds_entries l node at (a ∷ []) T.add_entry_text _ (refl, (refl, refl)) refl

pub adds_two : (l : Layout) (node at : ℕ) (a b : EntryModel) → AddsEntries l T.add_two_text node at (a ∷ b ∷ [])
unfolding understood everything
adds_two l node at a b = adds_entries l node at (a ∷ b ∷ []) T.add_two_text _ (refl, (refl, refl)) refl

pub adds_three : (l : Layout) (node at : ℕ) (a b c : EntryModel)
    → AddsEntries l T.add_three_text node at (a ∷ b ∷ c ∷ [])
unfolding understood everything
adds_three l node at a b c =
    adds_entries l node at (a ∷ b ∷ c ∷ []) T.add_three_text _ (refl, (refl, refl)) refl

pub adds_four : (l : Layout) (node at : ℕ) (a b c d : EntryModel)
    → AddsEntries l T.add_four_text node at (a ∷ b ∷ c ∷ d ∷ [])
unfolding understood everything
adds_four l node at a b c d =
    adds_entries l node at (a ∷ b ∷ c ∷ d ∷ []) T.add_four_text _ (refl, (refl, refl)) refl
