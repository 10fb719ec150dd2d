use Rattle.room_records.proofs.Common.{◌≡◌, ◌∷◌, ap, ◌∙◌, arith, length, nil_from_length, mem_records}
use Rattle.std.specs.Vec.Iter.{into_iter_items}
use Rattle.room_records.proofs.MemRecords.{spaces_kept}
use Rattle.room_records.proofs.Untouched.{untouched_in_turn, untouched_itself}
use Rattle.room_records.proofs.mem.MemShelf.apply_all.Goals as goal

pub apply-requires : goal.apply-requires
apply-requires c = (rw c.in-Some.ensures.steps.0 at c.loop-step.invariant.rooms).0

pub loop-step-preserved : goal.loop-step-preserved
loop-step-preserved c =
    let now = c.loop-step.self in
    let new = c.apply.new.self in
    let left = into_iter_items c.next.new.self in
    let cut : into_iter_items c.loop-step.step-iterator ≡ c.in-Some.step ∷ left = c.in-Some.ensures.steps.0 in
    record {
      count = omega (arith, ap length cut, c.loop-step.invariant.count, c.in-Some.ensures.steps.1);
      rooms = spaces_kept now new c.apply.ensures.kept left (rw cut at c.loop-step.invariant.rooms).1;
      rest = λ hold.
          let here = rw cut at (c.loop-step.invariant.rest hold) in
          rw (c.apply.ensures.records here.0.0) (here.0.1, here.1);
      untouched = λ later rest. c.loop-step.invariant.untouched later (rw cut (untouched_in_turn c.in-Some.step left
          (mem_records now) (mem_records new) later c.apply.ensures.untouched rest));
    }

pub returns-clause-records : goal.returns-clause-records
returns-clause-records c = λ hold.
    let none = nil_from_length _ (c.loop-step.invariant.count ∙ c.in-None.ensures.steps.0) in
    (rw none at (c.loop-step.invariant.rest hold)).1

pub returns-clause-untouched : goal.returns-clause-untouched
returns-clause-untouched c =
    let last = mem_records c.loop-step.self in
    let none = nil_from_length _ (c.loop-step.invariant.count ∙ c.in-None.ensures.steps.0) in
    c.loop-step.invariant.untouched last (rw none (untouched_itself last))
