use Rattle.room_desk.proofs.Sent.{tried_by_found}
use Rattle.room_desk.proofs.requests.request.Goals as goal

pub returns : goal.returns
returns g c = tried_by_found c.in_ok-found.ensures.frame c.in_ok-found.ensures.there
    (λ h d. rw (← c.asked.view_is) (c.in_ok-found.ensures.value h d))
    c.answer_found.ensures.frame c.answer_found.ensures.refused c.answer_found.ensures.joins
