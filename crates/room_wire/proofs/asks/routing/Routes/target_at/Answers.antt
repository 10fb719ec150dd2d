use Rattle.room_wire.proofs.Common.{◌<◌, ap, subst, ◌∙◌, AllByRecursion, target_at}
use Rattle.room_wire.proofs.Lemmas.Asks.RoomTargets.{room_target_is}
use Rattle.room_wire.proofs.Lemmas.Asks.Routes.{bytes_text}
use Rattle.room_wire.proofs.asks.routing.Routes.target_at.Goals as goal

pub returns : goal.returns
returns c =
    let bytes = subst (AllByRecursion (λ b. b < 256)) c.as_bytes.ensures.value c.bytes_fit.ensures in
    c.target_in.ensures ∙ ap (λ rows. target_at rows c.args.method.now c.args.target.now) c.self.invariant
    ∙ room_target_is c.args.method.now c.args.target.now (bytes_text c.args.target.now bytes)
