use Rattle.room_desk.proofs.Common.{◌≡◌, [], ◌∷◌, ◌++◌, length, ap, ◌∙◌, arith, map, refl, sym, take_all, map-append}
use Rattle.room_desk.proofs.Common.{length_push, same_from_push, event_model, answer_model, EventAnswered, Step}
use Rattle.room_desk.proofs.Common.{no_call, calls_then}
use Rattle.room_desk.proofs.Runs.{in_turn_at}
use Rattle.room_desk.proofs.desk.Desk.run.Goals as goal

pub loop-event-init : goal.loop-event-init
loop-event-init g c = record {
  room = omega (arith, c.in_ok-answers.ensures.capacity);
  count = c.in_ok-answers.ensures.len;
  frame = no_call (g.S.Shelf.view c.args.self.now);
  alive = λ k before last is other.
      let none : [] ≡ before ++ last ∷ [] = sym (ap (map answer_model) c.in_ok-answers.ensures.items) ∙ is in
      absurd (omega (arith, ap length none, length_push before last));
  run = λ k start past stands. (past, rw c.in_ok-answers.ensures.items refl, stands);
  each = rw c.in_ok-answers.ensures.items refl;
}

pub loop-event-preserved : goal.loop-event-preserved
loop-event-preserved g c = record {
  room = omega (arith, c.loop-event.invariant.room, c.push.ensures.capacity);
  count = omega (arith, c.loop-event.invariant.count, c.in-Ok.ensures.len);
  frame = calls_then _ _ _ c.handle.ensures.answered.frame c.loop-event.invariant.frame;
  alive = λ k before last is other.
      let same = same_from_push (map answer_model c.loop-event.answers.items)
      before (answer_model c.handle.result) last (rw (c.in-Ok.ensures.items, map-append) at is) in
      c.handle.ensures.answered.alive k (event_model c.event-item.result) refl (λ delay. other (sym same.1 ∙ delay));
  run = λ k start past stands.
      let so_far = c.loop-event.invariant.run (c.handle.ensures.answered.frame.was_intact k) start past stands in
      let step = c.handle.ensures.answered.step k start so_far.0 so_far.2 in (
        step.0,
        in_turn_at (Step start) past so_far.0 step.0 c.args.events.now c.loop-event.event-index
            c.event-item.result c.loop-event.answers.items c.push.new.self.items c.handle.result
            c.loop-event-test.true c.event-item.is c.in-Ok.ensures.items so_far.1 step.1,
        step.2,
      );
  each =
      in_turn_at (EventAnswered g.S.Shelf.view) c.args.self.now c.loop-event.self c.handle.new.self
      c.args.events.now c.loop-event.event-index c.event-item.result
      c.loop-event.answers.items c.push.new.self.items c.handle.result
      c.loop-event-test.true c.event-item.is c.in-Ok.ensures.items
      c.loop-event.invariant.each c.handle.ensures.answered;
}

pub returns-clause-run : goal.returns-clause-run
returns-clause-run g c = λ k start past stands.
    rw (take_all c.loop-event.event-index c.args.events.now c.loop-event-test.false)
    at (c.loop-event.invariant.run k start past stands)

pub returns-clause-each : goal.returns-clause-each
returns-clause-each g c =
    rw (take_all c.loop-event.event-index c.args.events.now c.loop-event-test.false) at c.loop-event.invariant.each
