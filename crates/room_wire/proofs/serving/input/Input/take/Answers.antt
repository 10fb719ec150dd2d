use Rattle.room_wire.proofs.Lemmas.Messages.Boundaries.{range_drop}
use Rattle.room_wire.proofs.serving.input.Input.take.Goals as goal

pub returns : goal.returns
returns c =
    let h = rw (← c.self.view_is) at c.requires in
    rw (← c.self.view_is) (range_drop c.self.inside.buffer.items c.self.inside.start
    c.self.inside.end c.args.count c.self.invariant.0 c.self.invariant.1 h)
