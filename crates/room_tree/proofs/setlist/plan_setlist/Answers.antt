use Rattle.room_tree.proofs.Common.{◌≡◌, ap, sym, ◌∙◌, [], ◌∷◌, refl, arith, filter_map, own_entries_fault}
use Rattle.room_tree.proofs.Common.{with_inherited, kept_entry, own_entries_of_setlist, read_then, node_of, entries_of}
use Rattle.room_tree.proofs.Common.{walk, check_exists, check_right, check_lawful, object_or_default, kind_of}
use Rattle.room_tree.proofs.Checking.{none_passes, first_alone, there}
use Rattle.room_tree.proofs.Relisted.{setlist_plans}
use Rattle.room_tree.proofs.Stops.{handed_on, in_front}
use Rattle.room_tree.proofs.InTurn.{both_tell}
use Rattle.room_tree.proofs.setlist.plan_setlist.Goals as goal

pub returns-in_err-loaded-clause-effect : goal.returns-in_err-loaded-clause-effect
returns-in_err-loaded-clause-effect g c = λ available laid_out t e room stand.
    let path = c.args.path.now in
    let caller = c.args.subject.now in
    let sent = c.args.entries.now in
    let flag = c.args.aclflag in
    handed_on _ _ _ c.from_residual.result c.from_residual.ensures.1
    (in_front (walk room caller path ∷ check_exists room path ∷ check_right room caller path 0x40000 ∷ [])
    ((check_lawful (own_entries_fault (own_entries_of_setlist path flag sent) (object_or_default room path).kind))
    ∷ []) _
    (c.in_err-loaded.ensures.value available laid_out t e room stand))

pub returns-in_err-check_lawful-clause-effect : goal.returns-in_err-check_lawful-clause-effect
returns-in_err-check_lawful-clause-effect g c = λ available laid_out t e room stand.
    let path = c.args.path.now in
    let caller = c.args.subject.now in
    let sent = c.args.entries.now in
    let flag = c.args.aclflag in
    let loaded = c.in_ok-loaded.loaded in
    let reached = c.in_ok-loaded.ensures.value available laid_out t e room stand in
    let own : c.in_ok-own.own.items ≡ own_entries_of_setlist path flag sent =
    c.in_ok-own.ensures ∙ ap (λ b. filter_map (kept_entry b) sent) c.follows_at.ensures in
    let kind : loaded.kind ≡ (object_or_default room path).kind =
    reached.1.is_there.shows.kind ∙ sym (ap kind_of (there reached.1)) in
    let whole = none_passes (walk room caller path ∷ check_exists room path ∷ check_right room caller path 0x40000 ∷ [])
    ((check_lawful (own_entries_fault (own_entries_of_setlist path flag sent) (object_or_default room path).kind))
    ∷ []) reached.0 ∙ first_alone
    (check_lawful (own_entries_fault (own_entries_of_setlist path flag sent) (object_or_default room path).kind))
    ∙ ap (λ k. check_lawful (own_entries_fault (own_entries_of_setlist path flag sent) k)) (sym kind)
    ∙ ap (λ es. check_lawful (own_entries_fault es loaded.kind)) (sym own)
    ∙ ap (λ es. check_lawful (own_entries_fault es loaded.kind)) (sym c.as_slice.ensures.value) in
    handed_on _ _ _ c.from_residual-in_err-check_lawful.result
    c.from_residual-in_err-check_lawful.ensures.1 (whole ∙ sym c.in_err-check_lawful.ensures)

pub returns-clause-effect : goal.returns-clause-effect
returns-clause-effect g c = λ available laid_out t e room stand.
    let path = c.args.path.now in
    let caller = c.args.subject.now in
    let sent = c.args.entries.now in
    let flag = c.args.aclflag in
    let loaded = c.in_ok-loaded.loaded in
    let after = read_then _ _ _ _ c.with_list.ensures.frame c.in_ok-stored.ensures.frame in
    let told = both_tell _ _ c.reach_to_use.ensures.frame
    (read_then _ _ _ _ after c.in_ok-list.ensures.frame) c.in_ok-loaded.ensures.value
    (both_tell _ _ c.in_ok-list.ensures.frame after c.in_ok-list.ensures.value
    (both_tell _ _ c.in_ok-stored.ensures.frame c.with_list.ensures.frame c.in_ok-stored.ensures.value
    c.in_ok-changes.ensures.value)) available laid_out t e room stand in
    let reached = told.0 in
    let stored = told.1.1.0 path reached.1 in
    let own : c.in_ok-own.own.items ≡ own_entries_of_setlist path flag sent =
    c.in_ok-own.ensures ∙ ap (λ b. filter_map (kept_entry b) sent) c.follows_at.ensures in
    let kind : loaded.kind ≡ (object_or_default room path).kind =
    reached.1.is_there.shows.kind ∙ sym (ap kind_of (there reached.1)) in
    let whole = none_passes (walk room caller path ∷ check_exists room path ∷ check_right room caller path 0x40000 ∷ [])
    ((check_lawful (own_entries_fault (own_entries_of_setlist path flag sent) (object_or_default room path).kind))
    ∷ []) reached.0 ∙ first_alone
    (check_lawful (own_entries_fault (own_entries_of_setlist path flag sent) (object_or_default room path).kind))
    ∙ ap (λ k. check_lawful (own_entries_fault (own_entries_of_setlist path flag sent) k)) (sym kind)
    ∙ ap (λ es. check_lawful (own_entries_fault es loaded.kind)) (sym own)
    ∙ ap (λ es. check_lawful (own_entries_fault es loaded.kind)) (sym c.as_slice.ensures.value) in
    let passed = whole ∙ sym c.in_ok-check_lawful.ensures in
    let list = told.1.0 ∙ ap (λ es. with_inherited es flag loaded.kind (entries_of t loaded.parent)) own in
    let node = node_of loaded in
    let now = record node { aclflag = flag } in
    let shows = reached.1.is_there in
    let is : c.with_flags-node.result ≡ now = c.with_flags-node.ensures in
    let planned = rw is at (told.1.1.1 path node (rw is shows.at) (rw is shows.node_stands) (rw is refl)) in
    let changes = rw (c.as_slice-2.ensures.value ∙ stored) at c.if_changed-list.ensures in
    setlist_plans stand reached.1 caller flag sent passed
    c.in_ok-list.list.items list c.if_changed-list.result changes _ planned refl

pub returns-in_err-changes-clause-asks : goal.returns-in_err-changes-clause-asks
returns-in_err-changes-clause-asks g c = λ available laid_out t e room stand.
    let before = read_then _ _ _ _ c.in_ok-stored.ensures.frame c.in_ok-list.ensures.frame in
    let told = both_tell _ _ c.reach_to_use.ensures.frame (read_then _ _ _ _ c.with_list.ensures.frame before)
    c.in_ok-loaded.ensures.value (both_tell (λ t room. Unit {0}) _ before c.with_list.ensures.frame
    (λ available laid_out t e room stand. tt) c.with_list.ensures.asks) available laid_out t e room stand in
    let shows = told.0.1.is_there in
    omega (
      arith,
      c.reach_to_use.ensures.asks,
      c.list_in_folder.ensures.asks,
      c.whole_list.ensures.asks,
      told.1.1 c.args.path.now (rw c.with_flags-node.ensures shows.at),
    )

pub returns-clause-asks : goal.returns-clause-asks
returns-clause-asks g c = λ available laid_out t e room stand.
    let before = read_then _ _ _ _ c.in_ok-stored.ensures.frame c.in_ok-list.ensures.frame in
    let told = both_tell _ _ c.reach_to_use.ensures.frame (read_then _ _ _ _ c.with_list.ensures.frame before)
    c.in_ok-loaded.ensures.value (both_tell (λ t room. Unit {0}) _ before c.with_list.ensures.frame
    (λ available laid_out t e room stand. tt) c.with_list.ensures.asks) available laid_out t e room stand in
    let shows = told.0.1.is_there in
    omega (
      arith,
      c.reach_to_use.ensures.asks,
      c.list_in_folder.ensures.asks,
      c.whole_list.ensures.asks,
      told.1.1 c.args.path.now (rw c.with_flags-node.ensures shows.at),
    )
