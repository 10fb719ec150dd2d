use Rattle.room_wire.proofs.Common.{◌≡◌, ◌≤◌, take, digits_value, max_body}
use Rattle.room_wire.proofs.messages.fields.number_within.Given as goal

abbrev pub invariant-loop-b : goal.invariant-loop-b
invariant-loop-b l = (l.number ≡ digits_value 10 (take l.b-index l.digits)) × (l.number ≤ max_body)
