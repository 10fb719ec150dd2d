-- The changes of a command and its slot row, in one list.
use Rattle.room_desk.proofs.Common.{◌≡◌, ℕ, refl, ◌∙◌, arith, List, [], ◌∷◌, ◌++◌, AllByRecursion, bytes_decides}
use Rattle.room_desk.proofs.Common.{and_parts, nat_tests, common_steps, PutSlot, Records, ObjectRules, SlotRules}
use Rattle.room_desk.proofs.Common.{apply_change, apply_changes, apply_all_to_objects, IsOfObjects, RulesHoldAfterEach}
use Rattle.room_desk.proofs.Common.{ObjectRulesHoldAfterEach, Room, RepresentsRoom, reply_model, effect, IsLawful}
use Rattle.room_desk.proofs.Common.{Request, command_text, reply_text, HasSlot, RanTo, ran_row, then_some}
use Rattle.room_records.specs.declared.session.SlotRow.{SlotRow}
use Rattle.room_records.specs.declared.change.Change.{Change}
use Rattle.room_records.proofs.Changes.{changes_then}
use Rattle.room_tree.specs.Plans.{PlansEffect}
use Rattle.room_tree.specs.declared.planning.Outcome.{Outcome}

objects_of_changes : (changes : List Change) (r : Records)
    → (apply_changes changes r).objects ≡ apply_all_to_objects changes r.objects
objects_of_changes [] r = refl
objects_of_changes (change ∷ changes) r = objects_of_changes changes (apply_change change r)

-- the same sessions and slots
record SameSlots (r s : Records) : Type 0 where
  sessions : s.session ≡ r.session
  slots : s.slot ≡ r.slot

slots_kept : (change : Change) (r : Records) → IsOfObjects change → SameSlots r (apply_change change r)
slots_kept change r of_objects = grind (arith, common_steps)

all_slots_kept : (changes : List Change) (r : Records)
    → AllByRecursion IsOfObjects changes → SameSlots r (apply_changes changes r)
all_slots_kept [] r of_objects = record { sessions = refl; slots = refl }
all_slots_kept (change ∷ changes) r of_objects =
    let first = slots_kept change r of_objects.0 in
    let rest = all_slots_kept changes (apply_change change r) of_objects.1 in
    record { sessions = rest.sessions ∙ first.sessions; slots = rest.slots ∙ first.slots }

-- the rules on slots speak of sessions and slots alone
module _ {r s : Records} (same : SameSlots r s) where
  rules_still : SlotRules r → SlotRules s
  rules_still rules = record {
    sessions = λ sid row stands. rules.sessions sid row (rw same.sessions at stands);
    slots = λ sid slot kept. rw same.sessions (rules.slots sid slot (rw same.slots at kept));
  }

  has_still : {sid : List ℕ} {slot : ℕ} → HasSlot r sid slot → HasSlot s sid slot
  has_still has = record { row = has.row; stands = rw same.sessions has.stands; below = has.below }

put_slot_rules : (r : Records) (row : SlotRow) → SlotRules r
    → HasSlot r row.sid row.slot → SlotRules (apply_change (PutSlot row) r)
put_slot_rules r row rules has = record {
  sessions = rules.sessions;
  slots = λ sid slot kept. grind (arith, common_steps, nat_tests, and_parts, bytes_decides, rules.slots sid slot);
}

-- the rules hold after each change of the objects, and after the slot row
rules_with_slot : (changes : List Change) (r : Records) (row : SlotRow)
    → ObjectRules r.objects → ObjectRulesHoldAfterEach changes r.objects
    → AllByRecursion IsOfObjects changes → SlotRules r → HasSlot r row.sid row.slot
    → RulesHoldAfterEach (changes ++ PutSlot row ∷ []) r
rules_with_slot [] r row objects each of_objects slots has =
    (record { objects = objects; slots = put_slot_rules r row slots has }, tt)
rules_with_slot (change ∷ changes) r row objects each of_objects slots has =
    let same = slots_kept change r of_objects.0 in (
      record { objects = each.0; slots = rules_still same slots },
      rules_with_slot changes (apply_change change r) row each.0 each.1 of_objects.1
          (rules_still same slots) (has_still same has),
    )

-- what was committed for a command that was planned: the changes keep the rules, and leave what it was to run to
pub record Commits (r : Records) (room : Room) (q : Request)
    (from : Records) (changes : List Change) (reply : List ℕ) : Type 0 where
  pub rules : RulesHoldAfterEach changes from
  pub says : reply ≡ reply_text (effect room q.caller q.command).reply
  pub ran : (new : Records) → new ≡ apply_changes changes from → RanTo r room q new

-- so it is where the slot row keeps the text of the command and of its reply
pub commits : {r from : Records} {room : Room} {p q : Request} {outcome : Outcome} {row : SlotRow}
    {changes : List Change} {reply : List ℕ} → p ≡ q → from ≡ r → RepresentsRoom r.objects room → SlotRules r
    → HasSlot r q.sid q.slot → PlansEffect r.objects room p.caller p.command outcome → IsLawful q.command
    → reply ≡ reply_text (reply_model outcome.reply)
    → row ≡ record {
      sid = q.sid;
      slot = q.slot;
      kept = record { seq = q.seq; request = command_text q.command; reply = then_some q.keep reply };
    }
    → changes ≡ outcome.changes.items ++ PutSlot row ∷ [] → Commits r room q from changes reply
commits {r} {from} {room} {p} {q} {outcome} {row} {changes} asked same stand slots has planned lawful told
    row_is changes_are =
    let plans : PlansEffect r.objects room q.caller q.command outcome = rw (← asked) planned in
    let kept : row ≡ ran_row room q = row_is ∙ rw (told, plans.reply) in
    let still = all_slots_kept outcome.changes.items r plans.of_tree in record {
      rules = rw (same, changes_are, kept) (rules_with_slot outcome.changes.items r (ran_row room q)
          stand.rules plans.rules plans.of_tree slots has);
      says = rw (told, plans.reply);
      ran = λ new after. record {
        changed = apply_changes outcome.changes.items r;
        session = still.sessions;
        kept = still.slots;
        objects = rw (objects_of_changes outcome.changes.items r) plans.leads;
        leaves = after ∙ rw (same, changes_are, kept) (changes_then outcome.changes.items (PutSlot (ran_row room q)) r);
        says = refl;
        lawful = lawful;
        made = record {
          changes = outcome.changes.items;
          of_tree = plans.of_tree;
          few = plans.few;
          numbers = plans.numbers;
          leaves = after ∙ rw (same, changes_are, kept) refl;
        };
      };
    }
