use Rattle.room_tree.proofs.Common.{◌≡◌, ℕ, ◌+◌, ◌<◌, ◌^◌, refl, ap, sym, ◌∙◌, arith, List, [], ◌∷◌, ◌++◌, length}
use Rattle.room_tree.proofs.Common.{length-append, PutDoc, Object, check_size, bytes_at, Size, small_enough}
use Rattle.room_tree.proofs.Common.{appended_is_room, all_none}
use Rattle.room_commands.specs.CommandModel as C
use Rattle.room_tree.proofs.Checking.{none_passes, first_alone, bytes_there, file_checks}
use Rattle.room_tree.proofs.Changed.{is_document, replaced_plans, document_replaces}
use Rattle.room_tree.proofs.FewRows.{few_one}
use Rattle.room_tree.proofs.Stops.{handed_on, stopped_by, at_head, in_front, past_front}
use Rattle.room_tree.proofs.InTurn.{both_tell}
use Rattle.room_tree.proofs.changing.plan_append.Goals as goal

pub returns-in_err-loaded-clause-effect : goal.returns-in_err-loaded-clause-effect
returns-in_err-loaded-clause-effect g c = λ available laid_out t e room stand.
    let path = c.args.path.now in
    let caller = c.args.subject.now in
    let bytes = c.args.bytes.now in
    handed_on _ _ _ c.from_residual.result c.from_residual.ensures.1
    (in_front (file_checks room caller path 0x4) (check_size (length (bytes_at room path) + length bytes) ∷ [])
    _ (c.in_err-loaded.ensures.value available laid_out t e room stand))

pub returns-in_err-all-clause-effect : goal.returns-in_err-all-clause-effect
returns-in_err-all-clause-effect g c = λ available laid_out t e room stand.
    let path = c.args.path.now in
    let bytes = c.args.bytes.now in
    let told = both_tell _ _ c.reach_to_use.ensures.frame c.bytes_of.ensures.frame
    c.in_ok-loaded.ensures.value c.in_ok-old.ensures.value available laid_out t e room stand in
    let old = told.1 path told.0.1 in
    handed_on _ _ _ c.from_residual-in_err-all.result c.from_residual-in_err-all.ensures.1
    (past_front (file_checks room c.args.subject.now path 0x4)
    (check_size (length (bytes_at room path) + length bytes) ∷ []) _ told.0.0
    (at_head (check_size (length (bytes_at room path) + length bytes)) [] _
    (stopped_by _ (check_size (length (bytes_at room path) + length bytes)) _
    (ap (λ (b : List ℕ). check_size (length b + length bytes)) (sym old)) c.in_err-all.ensures.value)))

pub returns-clause-effect : goal.returns-clause-effect
returns-clause-effect g c = λ available laid_out t e room stand.
    let path = c.args.path.now in
    let caller = c.args.subject.now in
    let bytes = c.args.bytes.now in
    let loaded = c.in_ok-loaded.loaded in
    let told = both_tell _ _ c.reach_to_use.ensures.frame c.bytes_of.ensures.frame
    c.in_ok-loaded.ensures.value c.in_ok-old.ensures.value available laid_out t e room stand in
    let old = told.1 path told.0.1 in
    let joined = c.in_ok-all.ensures.value in
    let all_bytes = c.in_ok-all.all in
    let size = rw old at joined.0 in
    let passed = none_passes (file_checks room caller path 0x4)
    (check_size (length (bytes_at room path) + length bytes) ∷ []) told.0.0
    ∙ first_alone (check_size (length (bytes_at room path) + length bytes)) ∙ size in
    let all = all_none (file_checks room caller path 0x4) told.0.0 in
    let file = is_document told.0.1 all.1.1.0 in
    let change : Object → Object = λ o. record o { bytes = o.bytes ++ bytes } in
    let is : all_bytes.items ≡ told.0.1.object.bytes ++ bytes =
    joined.1 ∙ ap (λ b. b ++ bytes) (old ∙ bytes_there stand told.0.1) in
    let long : length all_bytes.items ≡ length (bytes_at room path) + length bytes =
    ap length (joined.1 ∙ ap (λ b. b ++ bytes) old) ∙ length-append (bytes_at room path) bytes in
    let fits : length all_bytes.items < 2 ^ 32 =
    omega (arith, long, small_enough room (length (bytes_at room path) + length bytes) size) in
    let r = document_replaces stand told.0.1 change (appended_is_room room caller bytes path
    stand.lawful passed) file all_bytes (ap (λ (b : List ℕ). record told.0.1.object { bytes = b }) (sym is)) in
    replaced_plans caller (C.Append c.args.bytes.now path) c.in_ok-outcome.outcome (PutDoc loaded.id all_bytes
    ∷ []) stand
    r passed (c.in_ok-outcome.ensures.reply fits ∙ ap Size long) c.in_ok-outcome.ensures.changes
    (tt, tt) (r.rules, tt) (few_one t (PutDoc loaded.id all_bytes) (λ id. refl)) (λ q. refl)
