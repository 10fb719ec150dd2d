use Rattle.room_acl.proofs.Common.{sym, ◌∙◌}
use Rattle.room_acl.proofs.Subjects.{same_subject}
use Rattle.room_acl.proofs.subject.SubjectPartialEq.eq.Goals as goal

pub returns-then-eq-clause-same : goal.returns-then-eq-clause-same
returns-then-eq-clause-same c = λ h. sym c.self.view_is
    ∙ same_subject (sym c.eq.ensures ∙ c.if-eq.true) (sym c.eq-then-eq.ensures ∙ h) ∙ c.other.view_is
