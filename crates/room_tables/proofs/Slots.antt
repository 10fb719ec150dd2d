-- What slots keep, after rows were taken out or one was put.
use Rattle.room_tables.proofs.Common.{◌≡◌, ◌≢◌, ◌≤◌, ℕ, suc, true, false, not, ◌&&◌, ◌==◌, cond, List, [], ◌∷◌, map}
use Rattle.room_tables.proofs.Common.{filter, Option, None, Some, option_map, Ok, inl, inr, refl, sym, ap, ap₂, subst}
use Rattle.room_tables.proofs.Common.{◌∙◌, true≢false, arith, bytes_eq, eq-eqb, AllByRecursion, cases_Bool, and_from}
use Rattle.room_tables.proofs.Common.{eqb-true, false_from_ne_true, Text, Row, all_has, Database, IsDatabase}
use Rattle.room_tables.proofs.Common.{first_of_both, second_of_both, State, ExecutesInside, PutSlot, DropSlots}
use Rattle.room_tables.proofs.Common.{apply_change, Records, Layout, room_schema, slots_tree, has_text, is_slot, only}
use Rattle.room_tables.proofs.Common.{shown_slot, kept_of, slots_in, nodes_in, entries_in, documents_in, next_in}
use Rattle.room_tables.proofs.Common.{sessions_in, kept_rows, reply_in, records_of, IsKeyed, HasNumbers, IsRoomDatabase}
use Rattle.room_tables.proofs.Common.{reply_value, Steps}
use Rattle.std.proofs.lemmas.Slice.Eq.{bytes_eq-Decides}
use Rattle.room_slots.specs.KeptModel.{KeptModel}
use Rattle.room_records.specs.declared.session.SlotRow.{SlotRow}
use Rattle.room_tables.proofs.Texts.{drop_slots_text, change_slot_text, add_slot_text}
use Rattle.room_tables.proofs.Each.{above}
use Rattle.room_tables.proofs.TreeNames.{slots_listed}
use Rattle.room_tables.proofs.Values.{has_one, has_text_one}
use Rattle.room_tables.proofs.Removed.{one_row}
use Rattle.room_tables.proofs.Changes.{Others, without}
use Rattle.room_tables.proofs.Upserts.{Put}
use Rattle.room_tables.proofs.Kept.{slot_values, its_slot, slot_once, PutsSlot, ChangesSlot, changes_slot, adds_slot}
use Rattle.room_tables.proofs.Takes.{drops_slots}
use Rattle.room_tables.proofs.Filters.{filter_apart, has_row, none_left, others_left, keyed_filter}
use Rattle.room_tables.proofs.Filters.{keyed_after, still_room, version_stays}
use Rattle.room_tables.proofs.Effects.{same_records, read, steps_then, steps_left}

-- where one of two tests of a slot fails, the rows of the two are apart
slots_apart : (sid q : List ℕ) (slot n : ℕ) → (bytes_eq q sid && (n == slot)) ≡ false → (r : Row)
    → is_slot sid slot r ≡ true → is_slot q n r ≡ false
slots_apart sid q slot n differs r h = false_from_ne_true _ (λ also.
    let name : q ≡ sid = has_text_one 1 q sid r (first_of_both _ _ also) (first_of_both _ _ h) in
    let number : n ≡ slot = has_one 2 n slot r (second_of_both _ _ also) (second_of_both _ _ h) in
    true≢false (sym (and_from _ (n == slot) ((bytes_eq-Decides q sid).1 name) (eq-eqb n slot number)) ∙ differs))

names_same : (sid q : List ℕ) (slot n : ℕ) → (bytes_eq q sid && (n == slot)) ≡ true → (q ≡ sid) × (n ≡ slot)
names_same sid q slot n h = ((bytes_eq-Decides q sid).0 (first_of_both _ _ h), eqb-true n slot (second_of_both _ _ h))

abbrev kept_in : List Row → Option KeptModel
kept_in rows = option_map kept_of (only (map shown_slot rows))

-- ---- the rows of a session go

all_gone : (before after : List Row) (sid q : List ℕ) (n : ℕ) → after ≡ without (has_text 1 sid) before
    → slots_in after q n ≡ cond (bytes_eq q sid) None (slots_in before q n)
all_gone before after sid q n is = elim (cases_Bool (bytes_eq q sid)) [
  | inl same ↦
      let name = (bytes_eq-Decides q sid).0 same in
      rw same (ap kept_in (ap (filter (is_slot q n)) is ∙ none_left (has_text 1 sid) (is_slot q n)
      before (λ r h. subst (λ s. has_text 1 s r ≡ true) name (first_of_both _ _ h))))
  | inr differs ↦ rw differs (ap kept_in
      (ap (filter (is_slot q n)) is ∙ others_left (has_text 1 sid) (is_slot q n) before (λ r h. apart r h differs)))
]
  where
    apart : (r : Row) → is_slot q n r ≡ true → bytes_eq q sid ≡ false → has_text 1 sid r ≡ false
    apart r h differs = false_from_ne_true _ (λ also.
        true≢false (sym ((bytes_eq-Decides q sid).1 (has_text_one 1 q sid r (first_of_both _ _ h) also)) ∙ differs))

-- the table of what slots keep is none of the others
apart : (l : Layout) (tree : ℕ) → tree ≤ 7 → tree ≢ slots_tree l
apart l tree low = let high = above l in omega (arith, high)

-- where it alone changed, so do the slots alone of what is read
steps_slots : (old new : State) (room : IsRoomDatabase old.now) (change : Records → Records)
    → new.now.schema ≡ room_schema room.layout → IsDatabase new.now
    → Others room.layout (slots_tree room.layout) old.now.trees new.now.trees
    → IsKeyed (new.now.trees (slots_tree room.layout))
    → read old.now.trees (kept_rows new.now.trees) ≡ change (records_of old.now.trees) → Steps old new change
steps_slots old new room change schema sound o keyed is =
    let l = room.layout in
    let node : new.now.trees 1 ≡ old.now.trees 1 = o.node (apart l 1 (omega arith)) in
    record {
      room = still_room (slots_tree l) old.now new.now room schema sound o keyed
          (subst (AllByRecursion HasNumbers) (sym node) room.numbered);
      schema = schema ∙ sym room.schema;
      version = version_stays _ _ (o.room (apart l 0 (omega arith)));
      sound = λ _ _. sound;
      lists = λ _. sound;
      records = same_records _ _
          (λ q. ap (λ rows. nodes_in rows q) node)
          (λ q. ap (λ rows. entries_in rows q) (o.entry (apart l 3 (omega arith))))
          (λ q. ap (λ rows. documents_in rows q) (o.doc (apart l 5 (omega arith))))
          (ap next_in (o.room (apart l 0 (omega arith))))
          (λ q. ap (λ rows. sessions_in rows q) (o.session (apart l 6 (omega arith)))) (λ _ _. refl) ∙ is;
    }

pub steps_drop_slots : (old new : State) (sid : List ℕ) (count : ℕ) → IsRoomDatabase old.now
    → ExecutesInside 0 drop_slots_text (Text sid ∷ []) old new (Ok count) → Steps old new (apply_change (DropSlots sid))
steps_drop_slots old new sid count room h =
    let l = room.layout in
    let it = drops_slots l old new sid count room.schema room.keyed.1.1.1.1.1.0 h.0 in
    let keyed = subst IsKeyed (sym it.rows_are)
    (keyed_filter (λ r. not (has_text 1 sid r)) (old.now.trees (slots_tree l)) room.keyed.1.1.1.1.1.0) in
    let rows : kept_rows new.now.trees ≡ without (has_text 1 sid) (kept_rows old.now.trees) =
    slots_listed new.now l it.sound it.schema ∙ it.rows_are ∙ ap (without (has_text 1 sid)) (sym room.listed) in
    steps_slots old new room _ it.schema it.sound it.others keyed
    (same_records _ _ (λ _. refl) (λ _. refl) (λ _. refl) refl (λ _. refl)
    (λ q n. all_gone (kept_rows old.now.trees) (kept_rows new.now.trees) sid q n rows))

-- ---- a row is put: its session's name and its number stand once together, by the rule UNIQUE

filter_slot : {X : Type 0} (f : List Row
    → X) (l : Layout) (sid q : List ℕ) (slot n : ℕ) (old new : Database) (Fits : Row → Type 0)
    (it : Put l (slots_tree l) old.trees new.trees Fits (λ r. is_slot sid slot r ≡ true))
    → is_slot sid slot it.row ≡ true → new.schema ≡ room_schema l → IsDatabase new → IsKeyed (old.trees (slots_tree l))
    → f (filter (is_slot q n) (new.trees (slots_tree l)))
    ≡ cond (bytes_eq q sid && (n == slot)) (f (it.row ∷ [])) (f (filter (is_slot q n) (old.trees (slots_tree l))))
filter_slot f l sid q slot n old new Fits it mine schema sound keyed =
    elim (cases_Bool (bytes_eq q sid && (n == slot))) [
      | inl same ↦
          let names = names_same sid q slot n same in
          let rows = new.trees (slots_tree l) in
          let table = keyed_after it keyed in
          rw same (ap f (ap₂ (λ s m. filter (is_slot s m) rows) names.0 names.1
          ∙ one_row (is_slot sid slot) rows it.row table.table (has_row it) mine
          (λ x y a b p h. slot_once l new sid slot x y schema sound
          (all_has _ rows x table.ints a) (all_has _ rows y table.ints b) a b p h)))
      | inr differs ↦ rw differs (ap f (filter_apart it (is_slot q n) (slots_apart sid q slot n differs it.row mine)
          (slots_apart sid q slot n differs)))
    ]

reply_back : (reply : Option (List ℕ)) → reply_in (reply_value reply) ≡ reply
reply_back None = refl
reply_back (Some bytes) = refl

steps_put : (old new : State) (row : SlotRow) (room : IsRoomDatabase old.now) → PutsSlot room.layout row old.now new.now
    → Steps old new (apply_change (PutSlot row))
steps_put old new row room done =
    let l = room.layout in
    let it = done.put in
    let mine = its_slot row it.row it.fits in
    let back : kept_of (shown_slot it.row) ≡ row.kept = ap (λ r. kept_of (shown_slot r)) it.fits.is
    ∙ (λ i. record row.kept { reply = reply_back row.kept.reply i }) in
    steps_slots old new room _ done.schema done.sound it.others (keyed_after it room.keyed.1.1.1.1.1.0)
    (same_records _ _ (λ _. refl) (λ _. refl) (λ _. refl) refl (λ _. refl)
    (λ q n. ap (λ rows. slots_in rows q n) (slots_listed new.now l done.sound done.schema)
    ∙ filter_slot kept_in l row.sid q row.slot n old.now new.now _ it mine done.schema done.sound room.keyed.1.1.1.1.1.0
    ∙ ap₂ (λ kept rows. cond (bytes_eq q row.sid && (n == row.slot)) (Some kept) (slots_in rows q n)) back
    (sym room.listed)))

abbrev pub row_values : SlotRow → Row
row_values row = slot_values row.sid row.slot row.kept.seq row.kept.request row.kept.reply

-- what an UPDATE leaves, by how many rows it changed
changes_row : (old new : State) (row : SlotRow) (count : ℕ) (room : IsRoomDatabase old.now)
    → ExecutesInside 0 change_slot_text (row_values row) old new (Ok count)
    → ChangesSlot room.layout row count old.now new.now
changes_row old new row count room h =
    changes_slot room.layout row old new count room.schema room.keyed.1.1.1.1.1.0 h.0

-- where it changed rows, the slot's row is put
pub steps_change_slot : (old new : State) (row : SlotRow) (count : ℕ) → IsRoomDatabase old.now
    → ExecutesInside 0 change_slot_text (row_values row) old new (Ok (suc count))
    → Steps old new (apply_change (PutSlot row))
steps_change_slot old new row count room h = steps_put old new row room (changes_row old new row (suc count) room h)

-- where it changed none, the INSERT behind it adds the row
pub steps_add_slot : (old mid new : State) (row : SlotRow) (count : ℕ) → IsRoomDatabase old.now
    → ExecutesInside 0 change_slot_text (row_values row) old mid (Ok 0)
    → ExecutesInside 0 add_slot_text (row_values row) mid new (Ok count)
    → Steps old new (apply_change (PutSlot row))
steps_add_slot old mid new row count room none one =
    let a = steps_left _ old mid room (changes_row old mid row 0 room none).leaves in
    steps_then a (steps_put mid new row a.room (adds_slot a.room.layout row mid new count a.room.schema one.0))

-- the rows of nodes stay as they are
pub change_leaves_nodes : (old new : State) (row : SlotRow) (count : ℕ) → IsRoomDatabase old.now
    → ExecutesInside 0 change_slot_text (row_values row) old new (Ok (suc count))
    → new.now.trees 1 ≡ old.now.trees 1
change_leaves_nodes old new row count room h =
    (changes_row old new row (suc count) room h).put.others.node (apart room.layout 1 (omega arith))

pub add_leaves_nodes : (old mid new : State) (row : SlotRow) (count : ℕ) → IsRoomDatabase old.now
    → ExecutesInside 0 change_slot_text (row_values row) old mid (Ok 0)
    → ExecutesInside 0 add_slot_text (row_values row) mid new (Ok count) → new.now.trees 1 ≡ old.now.trees 1
add_leaves_nodes old mid new row count room none one =
    let left = (changes_row old mid row 0 room none).leaves in
    let l = room.layout in
    (adds_slot l row mid new count left.schema one.0).put.others.node (apart l 1 (omega arith))
    ∙ left.others.node (apart l 1 (omega arith))
