-- The records of a shelf in memory, after one of its tables changes.
use Rattle.room_records.proofs.Common.{◌≡◌, ℕ, ◌<◌, refl, ap, ◌∙◌, cond, inl, inr, List, [], ◌∷◌, ◌++◌, Option, arith}
use Rattle.room_records.proofs.Common.{nat_cmp, ◌==◌, AllByRecursion, eq_by_cmp, cases_Bool, eq-eqb, Change, max_slots}
use Rattle.room_records.proofs.Common.{Records, RulesHold, apply_change, apply_changes, RulesHoldAfterEach}
use Rattle.room_records.proofs.Common.{HaveSlotCounts, HasSpaceFor, KeepsSpace, AreSameChanges}
use Rattle.room_records.specs.declared.change.Change.TheVariants.{PutNode, DropNode, PutEntries, PutDoc, PutSession}
use Rattle.room_records.specs.declared.change.Change.TheVariants.{PutSlot, DropSlots, PutNext}
use Rattle.room_records.specs.declared.session.SlotRow.{SlotRow}
use Rattle.room_records.specs.declared.mem.MemShelf.{MemShelf}
use Rattle.room_records.proofs.SessionKeys.{number_key}
use Rattle.room_records.proofs.RoomsChildren.{name_itself}

-- what is read of a table, after a value is put at a number
pub read_put : {X Y : Type 0} (f : Option X → Y) (new old : ℕ → Option X) (key : ℕ) (value : Option X)
    → ((k : ℕ) → new k ≡ cond (eq_by_cmp nat_cmp key k) value (old k))
    → (k : ℕ) → f (new k) ≡ cond (k == key) (f value) (f (old k))
read_put f new old key value h k =
    rw (h k, number_key key k) (elim (cases_Bool (k == key)) [ inl same ↦ rw same refl | inr other ↦ rw other refl ])

-- a slot row that keeps the rules is below the limit
pub low_slot : (r : Records) (row : SlotRow) → HaveSlotCounts r.session
    → RulesHold (apply_change (PutSlot row) r) → row.slot < max_slots
low_slot r row counted rules =
    let found = rules.slots.slots row.sid row.slot
    (rw (name_itself row.sid, eq-eqb row.slot row.slot refl) refl) in
    omega (arith, found.2, counted row.sid found.0 found.1)

pub space_kept : (old new : MemShelf) → KeepsSpace old new
    → (change : Change) → HasSpaceFor old change → HasSpaceFor new change
space_kept old new kept (PutNode node) room = kept.nodes node room
space_kept old new kept (PutEntries id entries) room = kept.entries id room
space_kept old new kept (PutDoc id bytes) room = kept.docs id room
space_kept old new kept (PutSession row) room = kept.sessions row.sid room
space_kept old new kept (PutSlot row) room = λ low. kept.slots row.sid row.slot (room low)
space_kept old new kept (DropNode id) room = tt
space_kept old new kept (DropSlots sid) room = tt
space_kept old new kept (PutNext next) room = tt

pub spaces_kept : (old new : MemShelf) → KeepsSpace old new → (changes : List Change)
    → AllByRecursion (HasSpaceFor old) changes → AllByRecursion (HasSpaceFor new) changes
spaces_kept old new kept [] rooms = tt
spaces_kept old new kept (change ∷ changes) rooms =
    (space_kept old new kept change rooms.0, spaces_kept old new kept changes rooms.1)

pub same_push : (steps changes : List Change) (a b : Change)
    → AreSameChanges steps changes → ((r : Records) → apply_change a r ≡ apply_change b r)
    → AreSameChanges (steps ++ a ∷ []) (changes ++ b ∷ [])
same_push [] [] a b same here = (here, tt)
same_push [] (y ∷ changes) a b same here = absurd same
same_push (x ∷ steps) [] a b same here = absurd same
same_push (x ∷ steps) (y ∷ changes) a b same here = (same.0, same_push steps changes a b same.1 here)

pub same_after : (steps changes : List Change) (r : Records)
    → AreSameChanges steps changes → apply_changes steps r ≡ apply_changes changes r
same_after [] [] r same = refl
same_after [] (y ∷ changes) r same = absurd same
same_after (x ∷ steps) [] r same = absurd same
same_after (x ∷ steps) (y ∷ changes) r same =
    ap (apply_changes steps) (same.0 r) ∙ same_after steps changes (apply_change y r) same.1

pub same_rules : (steps changes : List Change) (r : Records) → AreSameChanges steps changes
    → RulesHoldAfterEach changes r → RulesHoldAfterEach steps r
same_rules [] [] r same rules = tt
same_rules [] (y ∷ changes) r same rules = absurd same
same_rules (x ∷ steps) [] r same rules = absurd same
same_rules (x ∷ steps) (y ∷ changes) r same rules =
    rw (same.0 r) (rules.0, same_rules steps changes (apply_change y r) same.1 rules.1)
