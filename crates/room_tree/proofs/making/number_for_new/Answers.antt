use Rattle.room_tree.proofs.Common.{◌≡◌, ℕ, ap, sym, ◌∙◌, [], ◌∷◌, None, nat_le, nat_lt, max_children, max_objects}
use Rattle.room_tree.proofs.Common.{Path, Records, ObjectRecords, RepresentsRoom, Room, FolderFull, RoomFull}
use Rattle.room_tree.proofs.Common.{first_refusal, refuse_if, check_folder_full, check_room_full}
use Rattle.room_tree.proofs.Checking.{skip, stop, first_alone}
use Rattle.room_tree.proofs.Made.{before_next}
use Rattle.room_tree.proofs.Stops.{handed_on}
use Rattle.room_tree.proofs.making.number_for_new.Goals as goal

-- where the folder is not full, what refuses is that no number is left
number_left : (t : ObjectRecords) (room : Room) → RepresentsRoom t room
    → (folder : Path) (next : ℕ) → next ≡ t.next → check_folder_full room folder ≡ None
    → first_refusal (check_folder_full room folder ∷ check_room_full room ∷ [])
    ≡ refuse_if (nat_lt max_objects next) RoomFull
number_left t room stand folder next is passed = skip (check_folder_full room folder) (check_room_full room ∷ []) passed
    ∙ first_alone (check_room_full room)
    ∙ ap (λ b. refuse_if b RoomFull) (sym (before_next max_objects t.next room.left stand.next))
    ∙ ap (λ n. refuse_if (nat_lt max_objects n) RoomFull) (sym is)

pub returns-in_err-check_children-clause-value : goal.returns-in_err-check_children-clause-value
returns-in_err-check_children-clause-value g c = λ available laid_out t e room stand folder found.
    let count = c.in_ok-count.ensures.value available laid_out t e room stand folder found in
    handed_on _ _ _ c.from_residual-in_err-check_children.result c.from_residual-in_err-check_children.ensures.1
    (stop (check_folder_full room folder) (check_room_full room ∷ []) _
    (ap (λ n. refuse_if (nat_le max_children n) FolderFull) (sym count) ∙ sym c.in_err-check_children.ensures))

pub returns-in_err-check_number-clause-value : goal.returns-in_err-check_number-clause-value
returns-in_err-check_number-clause-value g c = λ available laid_out t e room stand folder found.
    let before = c.next_id.ensures.frame.call.frame.was_available available in
    let declared = c.count_children.ensures.frame.call.frame.laid_out before laid_out in
    let same = ap (λ (r : Records). r.objects) (c.count_children.ensures.frame.same before laid_out) ∙ e in
    let count = c.in_ok-count.ensures.value before laid_out t e room stand folder found in
    let next = c.in_ok-next.ensures.value available declared ∙ ap (λ (r : ObjectRecords). r.next) same in
    handed_on _ _ _ c.from_residual-in_err-check_number.result c.from_residual-in_err-check_number.ensures.1
    (number_left t room stand folder c.in_ok-next.next next
    (ap (λ n. refuse_if (nat_le max_children n) FolderFull) (sym count) ∙ sym c.in_ok-check_children.ensures)
    ∙ sym c.in_err-check_number.ensures)

pub returns-clause-value : goal.returns-clause-value
returns-clause-value g c = λ available laid_out t e room stand folder found.
    let before = c.next_id.ensures.frame.call.frame.was_available available in
    let declared = c.count_children.ensures.frame.call.frame.laid_out before laid_out in
    let same = ap (λ (r : Records). r.objects) (c.count_children.ensures.frame.same before laid_out) ∙ e in
    let count = c.in_ok-count.ensures.value before laid_out t e room stand folder found in
    let next = c.in_ok-next.ensures.value available declared ∙ ap (λ (r : ObjectRecords). r.next) same in (
      number_left t room stand folder c.in_ok-next.next next
          (ap (λ n. refuse_if (nat_le max_children n) FolderFull) (sym count) ∙ sym c.in_ok-check_children.ensures)
          ∙ sym c.in_ok-check_number.ensures,
      next,
    )
