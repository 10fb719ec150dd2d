use Rattle.room_wire.proofs.Common.{sym, ◌∙◌}
use Rattle.room_wire.proofs.Lemmas.Asks.RoomTargets.{room_target_is}
use Rattle.room_wire.proofs.Lemmas.Asks.Routes.{ascii_text, routes_are, asked_is}
use Rattle.room_wire.proofs.asks.laws.routes_are_three_targets.Goals as goal

pub returns-clause-targets : goal.returns-clause-targets
returns-clause-targets c = routes_are

pub returns-clause-asked : goal.returns-clause-asked
returns-clause-asked c = λ method target sid slot seq route a m h.
    sym (room_target_is method target (ascii_text target a)) ∙ asked_is method target sid slot seq route a m h
