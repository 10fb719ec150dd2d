use Rattle.room_report.proofs.Common.{refl, ap, ◌∙◌, [], Records}
use Rattle.room_report.proofs.walking.report_room.Goals as goal

pub returns-in_default-clause-value : goal.returns-in_default-clause-value
returns-in_default-clause-value g c = λ intact laid_out t e room stand.
    absurd (rw c.in_default.is at (c.in_ok-root.ensures.value intact laid_out t e room stand))

pub returns-clause-value : goal.returns-clause-value
returns-clause-value g c = λ intact laid_out t e room stand.
    let before = c.report_below.ensures.frame.call.frame.was_intact intact in
    let there = c.in_ok-root.ensures.there before in
    let declared = c.root_item.ensures.frame.call.frame.laid_out there laid_out in
    let same = c.root_item.ensures.frame.same there laid_out in
    c.report_below.ensures.value intact declared t (ap (λ (r : Records). r.objects) same ∙ e) room stand []
    (rw c.in-Some.is at (c.in_ok-root.ensures.value before laid_out t e room stand)) refl
