use Rattle.room_report.proofs.Common.{refl, ap, sym, ◌∙◌, Records, ObjectRecords}
use Rattle.room_report.proofs.Items.{root_is_item}
use Rattle.room_report.proofs.item.root_item.Goals as goal

pub returns-clause-value : goal.returns-clause-value
returns-clause-value g c = λ intact laid_out t e room stand.
    let root = c.in-Some.root in
    let there = c.in_ok-root.ensures.there (c.entries.ensures.frame.call.frame.was_intact intact) in
    let declared = c.node.ensures.frame.call.frame.laid_out there laid_out in
    let same = c.node.ensures.frame.same there laid_out in
    root_is_item t room stand _ root
    (sym (rw c.in-Some.is at (c.in_ok-root.ensures.value there laid_out) ∙ ap (λ (r : ObjectRecords). r.node 1) e))
    refl refl refl refl refl
    (c.in_ok-list.ensures.value (c.in_ok-list.ensures.there intact) declared
    ∙ ap (λ (r : Records). r.objects.entries root.id) same ∙ ap (λ (r : ObjectRecords). r.entries root.id) e)
    c.new.ensures.items
