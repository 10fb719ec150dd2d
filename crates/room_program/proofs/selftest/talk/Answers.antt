use Rattle.room_program.proofs.Common.{refl, ap, ◌∙◌, Err, inl, inr}
use Rattle.room_program.proofs.Faults.{handed_on}
use Rattle.room_program.proofs.selftest.talk.Goals as goal

pub returns-in_default : goal.returns-in_default
returns-in_default g c = inl (refl, c.in_default.ensures.asked)

pub returns-in_default-ask : goal.returns-in_default-ask
returns-in_default-ask g c = inr (c.ask.new.self, c.in-Ok.ensures.asked, inl (refl, c.in_default-ask.ensures.asked))

pub returns-in_err-serve_two : goal.returns-in_err-serve_two
returns-in_err-serve_two g c =
    let (fault, fewer) = c.in_err-serve_two.ensures in
    inr (
      c.ask.new.self,
      c.in-Ok.ensures.asked,
      inr (
        c.ask-2.new.self,
        c.in-Ok-ask.ensures.asked,
        inl (handed_on _ _ c.from_residual.ensures.0 c.from_residual.ensures.1 ∙ ap Err fault, fewer),
      ),
    )

pub returns : goal.returns
returns g c =
    inr (
      c.ask.new.self,
      c.in-Ok.ensures.asked,
      inr (
        c.ask-2.new.self,
        c.in-Ok-ask.ensures.asked,
        inr (c.serve_two.new.listener, c.in_ok-serve_two.ensures, c.need_due_answers.ensures),
      ),
    )
