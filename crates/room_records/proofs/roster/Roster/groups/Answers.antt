use Rattle.room_records.proofs.Common.{ap, sym, ◌∙◌, Some, option_map, SubjectModel}
use Rattle.room_records.proofs.Rosters.{absent, groups_read}
use Rattle.room_records.proofs.roster.Roster.groups.Goals as goal

pub returns-in-Ok : goal.returns-in-Ok
returns-in-Ok c =
    ap Some (c.as_slice-in-Ok.ensures.value ∙ ap (λ (u : SubjectModel). u.groups) c.behind-self.view_is)
    ∙ groups_read c.args.self.now c.args.user.now c.in-Ok.place
    (rw (c.as_slice.ensures.value ∙ c.self.view_is) at c.in-Ok.ensures) c.index.result.now
    (rw c.self.view_is at c.index.ensures)

pub returns-in-Err : goal.returns-in-Err
returns-in-Err c = sym (ap (option_map (λ (u : SubjectModel). u.groups)) (absent c.args.self.now c.args.user.now
    c.in-Err.field-0 (rw c.self.view_is at c.self.invariant).in_order
    (rw (c.as_slice.ensures.value ∙ c.self.view_is) at c.in-Err.ensures)))
