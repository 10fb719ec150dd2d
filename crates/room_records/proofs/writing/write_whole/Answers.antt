use Rattle.room_records.proofs.Common.{arith, take_rest, length-drop}
use Rattle.room_records.proofs.Writers.{front_kept, front_some, front_more}
use Rattle.room_records.proofs.writing.write_whole.Goals as goal

pub returns-in-Ok-eq0 : goal.returns-in-Ok-eq0
returns-in-Ok-eq0 g c =
    let took = rw take_rest at c.in-Ok-eq0.ensures.bytes in
    front_some _ _ _ _ c.loop-at.at _ c.loop-at.invariant.1 took

pub loop-at-preserved : goal.loop-at-preserved
loop-at-preserved g c =
    let took = rw take_rest at c.in-Ok.ensures.bytes in
    let bound = rw take_rest at c.in-Ok.ensures.bound in (
      omega (arith, bound, length-drop c.loop-at.at c.args.bytes.now),
      front_more _ _ _ _ c.loop-at.at c.in-Ok.n c.loop-at.invariant.1 took,
    )

pub returns-in-Err : goal.returns-in-Err
returns-in-Err g c = front_kept _ _ _ _ c.loop-at.at c.loop-at.invariant.1 c.in-Err.ensures.bytes
