use Rattle.room_wire.proofs.Common.{◌≡◌, rules, ap, sym, ◌∙◌, codes, bytes_eq, first}
use Rattle.room_wire.proofs.Lemmas.Asks.Targets.{asks_found, asks_missing}
use Rattle.room_wire.proofs.asks.routing.CheckRoute.asks.Goals as goal

pub returns-in-Ok : goal.returns-in-Ok
returns-in-Ok c =
    let right : c.eq.result ≡ bytes_eq c.args.method.now (codes "POST") = search rules in
    right ∙ asks_found (bytes_eq c.args.method.now (codes "POST")) c.args.target.now _
    (sym (ap (λ rows. first rows c.args.target.now) c.self.invariant) ∙ c.in-Ok.ensures.found)

pub returns-in-Err : goal.returns-in-Err
returns-in-Err c =
    asks_missing (bytes_eq c.args.method.now (codes "POST")) c.args.target.now
    (sym (ap (λ rows. first rows c.args.target.now) c.self.invariant) ∙ c.in-Err.ensures.missing)
