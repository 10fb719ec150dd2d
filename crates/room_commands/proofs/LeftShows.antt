-- How many numbers are left shows by ROOM_FULL alone.
use Rattle.room_commands.proofs.Common.{◌≡◌, ◌⊎◌, ℕ, ◌+◌, ◌-◌, refl, ap, sym, ◌∙◌, arith, false, List, [], ◌∷◌}
use Rattle.room_commands.proofs.Common.{Option, None, Some, inl, inr, ◌==◌}
use Rattle.room_commands.proofs.Common.{cases_Bool}
use Rattle.room_commands.proofs.Common.{delete_child}
use Rattle.room_commands.proofs.Common.{delete_object, SubjectModel, allowed_of, Path}
use Rattle.room_commands.proofs.Common.{Room, list_of, standing_of, parent_of, some_is, none_is_some}
use Rattle.room_commands.proofs.Common.{lists_by_objects_above, CommandModel, RoomFull, Refusal}
use Rattle.room_commands.proofs.Common.{NotDone, Entries, Allowed}
use Rattle.room_commands.proofs.Common.{RoomCheck, run_check, checks_of, subst, map, first_refusal, checks, check_right}
use Rattle.room_commands.proofs.Common.{walk}
use Rattle.room_commands.proofs.Common.{refuse_if}
use Rattle.room_commands.proofs.Common.{check_room_full, refusal_without_place, object_or_default, right_to_add, effect}
use Rattle.room_commands.proofs.Common.{effect_by, changed, reply}
use Rattle.room_commands.specs.CommandModel as C
use Rattle.room_commands.specs.Checks as K
use Rattle.room_commands.specs.Made.{with_more, IsRoomFull}
use Rattle.std.proofs.lemmas.Bool.Decides.{nat_tests}
use Rattle.room_commands.proofs.Rights.{all_none}
use Rattle.room_commands.proofs.ChecksTell.{not_refused}
use Rattle.room_commands.proofs.Shorthands.{removal_refusal}
use Rattle.room_commands.proofs.SameParts.{right_same, prefix_same, walk_same}

abbrev full : Refusal
full = refusal_without_place RoomFull

-- of two rooms the first may refuse with this alone, or both refuse alike
abbrev Kept : Option Refusal → Option Refusal → Type 0
Kept x y = (x ≡ Some full) ⊎ (x ≡ y)

behind : (x : Option Refusal) (xs ys : List (Option Refusal)) → Kept (first_refusal xs) (first_refusal ys)
    → Kept (first_refusal (x ∷ xs)) (first_refusal (x ∷ ys))
behind None xs ys others = others
behind (Some r) xs ys others = inr refl

first_kept : (run other : RoomCheck → Option Refusal) → ((check : RoomCheck) → Kept (run check) (other check))
    → (cs : List RoomCheck) → Kept (first_refusal (map run cs)) (first_refusal (map other cs))
first_kept run other each [] = inr refl
first_kept run other each (c ∷ cs) = elim (each c) [
  | inl refuses ↦ inl (ap (λ x. first_refusal (x ∷ map run cs)) refuses)
  | inr same ↦ subst (λ y. Kept (first_refusal (run c ∷ map run cs)) (first_refusal (y ∷ map other cs))) same
      (behind (run c) (map run cs) (map other cs) (first_kept run other each cs))
]

still_some : (left more : ℕ) → (left == 0) ≡ false → (left + more == 0) ≡ false
still_some left more some = grind (arith, nat_tests)

one_less : (left more : ℕ) → (left == 0) ≡ false → left + more - 1 ≡ left - 1 + more
one_less left more some = grind (arith, nat_tests)

module _ (a : Room) (n : ℕ) (caller : SubjectModel) where
  abbrev b : Room
  b = with_more n a

  lists : (q : Path) → list_of a q ≡ list_of b q
  lists q = lists_by_objects_above a b q (λ front rest is. refl)

  rights : (q : Path) (wanted : ℕ) → check_right a caller q wanted ≡ check_right b caller q wanted
  rights q wanted = right_same a b caller q wanted (lists q) refl

  ways : (q : Path) → walk a caller q ≡ walk b caller q
  ways q = walk_same a b caller q (λ front name rest is. prefix_same a b caller front (lists front) refl)

  fulls : (check_room_full a ≡ Some full) ⊎ (check_room_full a ≡ check_room_full b)
  fulls = elim (cases_Bool (a.left == 0)) [
    | inl none ↦ inl (ap (λ test. refuse_if test RoomFull) none)
    | inr some ↦ inr (ap (λ test. refuse_if test RoomFull) (some ∙ sym (still_some a.left n some)))
  ]

  kept : (check : RoomCheck) → Kept (run_check a caller check) (run_check b caller check)
  kept K.RoomTakes = fulls
  kept (K.Walks q) = inr (ways q)
  kept (K.IsAllowed q wanted) = inr (rights q wanted)
  kept (K.MayMoveTo q to) = inr (rights (parent_of to) (right_to_add (object_or_default a q).kind))
  kept (K.MayRemove q) =
      inr (λ i. removal_refusal q (rights q delete_object i) (rights (parent_of q) delete_child i))
  kept check = inr refl

  refused : (command : CommandModel)
      → Kept (first_refusal (checks a caller command)) (first_refusal (checks b caller command))
  refused command = first_kept (run_check a caller) (run_check b caller) kept (checks_of command)

  replies : (command : CommandModel) → reply a caller command ≡ reply b caller command
  replies (C.GetList path) = ap (Entries (object_or_default a path).aclflag) (lists path)
  replies (C.Access mask path) =
      ap (λ list. Allowed (allowed_of list caller (standing_of (object_or_default a path)) mask)) (lists path)
  replies command = refl

  leaves : (command : CommandModel) → first_refusal (checks a caller command) ≡ None
      → changed b caller command ≡ with_more n (changed a caller command)
  leaves (C.Mkdir path) passed =
      let (_, (_, (_, (_, (_, (some, _)))))) = all_none (checks a caller (C.Mkdir path)) passed in
      ap (λ left. record (changed a caller (C.Mkdir path)) { left = left })
      (one_less a.left n (not_refused (a.left == 0) RoomFull some))
  leaves (C.Create bytes path) passed =
      let (_, (_, (_, (_, (_, (_, (some, _))))))) = all_none (checks a caller (C.Create bytes path)) passed in
      ap (λ left. record (changed a caller (C.Create bytes path)) { left = left })
      (one_less a.left n (not_refused (a.left == 0) RoomFull some))
  leaves command passed = refl

  abbrev GoesOnAlike : CommandModel → Option Refusal → Option Refusal → Type 0
  GoesOnAlike command x y = ((effect_by b caller command y).reply ≡ (effect_by a caller command x).reply)
      × ((effect_by b caller command y).room ≡ with_more n (effect_by a caller command x).room)

  by_check : (command : CommandModel) (x y : Option Refusal) → first_refusal (checks a caller command) ≡ x → x ≡ y
      → GoesOnAlike command x y
  by_check command None None passed is = (sym (replies command), leaves command passed)
  by_check command (Some r) (Some s) passed is = (ap NotDone (sym (some_is r s is)), refl)
  by_check command None (Some s) passed is = absurd (none_is_some s is)
  by_check command (Some r) None passed is = absurd (none_is_some r (sym is))

pub left_shows : (more : ℕ) (room : Room) (caller : SubjectModel) (command : CommandModel)
    → IsRoomFull (effect room caller command).reply
    ⊎ (((effect (with_more more room) caller command).reply ≡ (effect room caller command).reply)
    × ((effect (with_more more room) caller command).room ≡ with_more more (effect room caller command).room))
left_shows more room caller command = elim (refused room more caller command) [
  | inl refuses ↦ inl (ap (λ x. (effect_by room caller command x).reply) refuses)
  | inr is ↦ inr (by_check room more caller command (first_refusal (checks room caller command))
      (first_refusal (checks (with_more more room) caller command)) refl is)
]
