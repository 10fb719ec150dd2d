use Rattle.room_tree.proofs.Common.{◌≡◌, ℕ, ◌<◌, ◌^◌, refl, ap, sym, ◌∙◌, arith, List, [], ◌∷◌, length, None, PutDoc}
use Rattle.room_tree.proofs.Common.{Object, check_size, Size, small_enough, written_is_room, all_none}
use Rattle.room_commands.specs.CommandModel as C
use Rattle.room_tree.proofs.Checking.{none_passes, first_alone, file_checks}
use Rattle.room_tree.proofs.Changed.{is_document, replaced_plans, document_replaces}
use Rattle.room_tree.proofs.FewRows.{few_one}
use Rattle.room_tree.proofs.Stops.{handed_on, in_front}
use Rattle.room_tree.proofs.changing.plan_write.Goals as goal

pub returns-in_err-loaded-clause-effect : goal.returns-in_err-loaded-clause-effect
returns-in_err-loaded-clause-effect g c = λ available laid_out t e room stand.
    handed_on _ _ _ c.from_residual.result c.from_residual.ensures.1
    (in_front (file_checks room c.args.subject.now c.args.path.now 0x2) (check_size (length c.args.bytes.now) ∷ []) _
    (c.in_err-loaded.ensures.value available laid_out t e room stand))

pub returns-in_err-check_size-clause-effect : goal.returns-in_err-check_size-clause-effect
returns-in_err-check_size-clause-effect g c = λ available laid_out t e room stand.
    let caller = c.args.subject.now in
    let reached = c.in_ok-loaded.ensures.value available laid_out t e room stand in
    handed_on _ _ _ c.from_residual-in_err-check_size.result c.from_residual-in_err-check_size.ensures.1
    (none_passes (file_checks room caller c.args.path.now 0x2) (check_size (length c.args.bytes.now) ∷ []) reached.0
    ∙ first_alone (check_size (length c.args.bytes.now)) ∙ sym c.in_err-check_size.ensures)

pub returns-clause-effect : goal.returns-clause-effect
returns-clause-effect g c = λ available laid_out t e room stand.
    let path = c.args.path.now in
    let caller = c.args.subject.now in
    let bytes = c.args.bytes.now in
    let loaded = c.in_ok-loaded.loaded in
    let reached = c.in_ok-loaded.ensures.value available laid_out t e room stand in
    let size : check_size (length bytes) ≡ None = sym c.in_ok-check_size.ensures in
    let passed = none_passes (file_checks room caller path 0x2)
    (check_size (length bytes) ∷ []) reached.0 ∙ first_alone (check_size (length bytes)) ∙ size in
    let all = all_none (file_checks room caller path 0x2) reached.0 in
    let file = is_document reached.1 all.1.1.0 in
    let copy = c.in_ok-copy.copy in
    let same : copy.items ≡ bytes = c.in_ok-copy.ensures.items_if_clones_equal (λ x y is. is) in
    let change : Object → Object = λ o. record o { bytes = bytes } in
    let fits : length copy.items < 2 ^ 32 = omega (arith, ap length same, small_enough room (length bytes) size) in
    let r = document_replaces stand reached.1 change (written_is_room room caller bytes path
    stand.lawful passed) file copy (ap (λ (b : List ℕ). record reached.1.object { bytes = b }) (sym same)) in
    replaced_plans caller (C.Write c.args.bytes.now path) c.in_ok-outcome.outcome (PutDoc loaded.id copy ∷ []) stand
    r passed (c.in_ok-outcome.ensures.reply fits ∙ ap (λ (b : List ℕ). Size (length b)) same)
    c.in_ok-outcome.ensures.changes
    (tt, tt) (r.rules, tt) (few_one t (PutDoc loaded.id copy) (λ id. refl)) (λ q. refl)
