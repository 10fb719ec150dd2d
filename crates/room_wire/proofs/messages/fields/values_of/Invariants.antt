use Rattle.room_wire.proofs.Common.{map, take, header_bytes, values_named, IsFound}
use Rattle.room_wire.proofs.messages.fields.values_of.Given as goal

abbrev pub invariant-loop-header : goal.invariant-loop-header
invariant-loop-header l =
    IsFound l.found (values_named l.name (map (header_bytes l.buf) (take l.header-index l.headers)))
