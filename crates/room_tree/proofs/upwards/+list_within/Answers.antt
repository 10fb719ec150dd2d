use Rattle.room_tree.proofs.Common.{◌≡◌, ◌≤◌, ◌-◌, ap, sym, ◌∙◌, arith, cond, [], ◌++◌, length, Some, List, EntryModel}
use Rattle.room_tree.proofs.Common.{handed_down, own_part, ObjectRecords, Records, follows, own_number}
use Rattle.room_tree.proofs.ListsUpwards.{node_there, list_ends, goes_on}
use Rattle.room_tree.proofs.upwards.+list_within.Goals as goal

pub returns-in_default-clause-value : goal.returns-in_default-clause-value
returns-in_default-clause-value g m c = λ available laid_out t e room stand path at stands short.
    let node = c.args.node.now in
    c.in_ok-own.ensures ∙ ap own_part (c.as_slice.ensures.value
    ∙ c.in_ok-stored.ensures.value available laid_out ∙ ap (λ (r : ObjectRecords). r.entries node.id) e)
    ∙ list_ends stand path node.id node at stands (sym c.folder_followed.ensures ∙ c.in_default.is)

pub returns-then-levels-eq0-clause-value : goal.returns-then-levels-eq0-clause-value
returns-then-levels-eq0-clause-value g m c = λ available laid_out t e room stand path at stands short.
    let node = c.args.node.now in
    let up = goes_on stand path node.id node at stands
    c.in-Some.folder (sym c.folder_followed.ensures ∙ c.in-Some.is) in
    absurd (omega (arith, up.one_more, short, c.if-levels-eq0.true))

pub returns-in_default-2-clause-value : goal.returns-in_default-2-clause-value
returns-in_default-2-clause-value g m c = λ available laid_out t e room stand path at stands short.
    let node = c.args.node.now in
    let before = c.node.ensures.frame.call.frame.was_available available in
    let declared = c.entries.ensures.frame.call.frame.laid_out before laid_out in
    let same = ap (λ (r : Records). r.objects) (c.entries.ensures.frame.same before laid_out) ∙ e in
    let up = goes_on stand path node.id node at stands
    c.in-Some.folder (sym c.folder_followed.ensures ∙ c.in-Some.is) in
    absurd (node_there stand up.folder c.in-Some.folder up.at
    (sym (ap (λ (r : ObjectRecords). r.node c.in-Some.folder) same)
    ∙ sym (c.in_ok-above.ensures.value available declared) ∙ c.in_default-2.is))

pub returns-clause-value : goal.returns-clause-value
returns-clause-value g m c = λ available laid_out t e room stand path at stands short.
    let node = c.args.node.now in
    let folder = c.in-Some.folder in
    let above = c.in-Some-2.above in
    let read = c.list_within.ensures.frame.call.frame.was_available available in
    let before = c.node.ensures.frame.call.frame.was_available read in
    let declared = c.entries.ensures.frame.call.frame.laid_out before laid_out in
    let same = ap (λ (r : Records). r.objects) (c.entries.ensures.frame.same before laid_out) ∙ e in
    let then_declared = c.node.ensures.frame.call.frame.laid_out read declared in
    let then_same = ap (λ (r : Records). r.objects) (c.node.ensures.frame.same read declared) ∙ same in
    let up = goes_on stand path node.id node at stands folder (sym c.folder_followed.ensures ∙ c.in-Some.is) in
    let there : t.node folder ≡ Some above =
    sym (ap (λ (r : ObjectRecords). r.node folder) same)
    ∙ sym (c.in_ok-above.ensures.value read declared) ∙ c.in-Some-2.is in
    let number : above.id ≡ folder = (stand.rules.numbered folder above there).0 in
    let fits : length up.folder ≤ c.args.levels - 1 = omega (arith, up.one_more, short) in
    let given = c.in_ok-given.ensures.value available then_declared t
    then_same room stand up.folder (rw number up.at)
    (own_number t stand.rules folder above there) fits in
    c.in_ok-list.ensures
    ∙ ap (λ (own : List EntryModel).
    own ++ cond (follows node.aclflag) (handed_down c.as_slice-2.result.now node.kind) [])
    (c.in_ok-own.ensures ∙ ap own_part (c.as_slice.ensures.value
    ∙ c.in_ok-stored.ensures.value before laid_out ∙ ap (λ (r : ObjectRecords). r.entries node.id) e))
    ∙ ap (λ (list : List EntryModel). own_part (t.entries node.id)
    ++ cond (follows node.aclflag) (handed_down list node.kind) []) (c.as_slice-2.ensures.value ∙ given)
    ∙ up.list
