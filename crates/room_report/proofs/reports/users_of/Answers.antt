use Rattle.room_report.proofs.Common.{◌≡◌, ◌+◌, refl, sym, ◌∙◌, rules, [], ◌∷◌, ◌++◌, Some, slice_get, SubjectModel}
use Rattle.room_report.proofs.Users.{one_more}
use Rattle.room_report.proofs.reports.users_of.Goals as goal

pub loop-place-preserved : goal.loop-place-preserved
loop-place-preserved c =
    let roster = c.args.roster.now in
    let i = c.loop-place.place in
    let user : SubjectModel = record { name = c.in-Some.name.now; groups = c.in-Some.groups.now } in
    let there : Some user ≡ slice_get roster i = search rules in
    c.in_ok-push.ensures.items
    ∙ (λ j. c.loop-place.invariant j
    ++ record { name = c.in_ok-name.ensures j; groups = c.in_ok-groups.ensures j } ∷ [])
    ∙ sym (one_more roster i (i + 1) user refl there)
