use Rattle.room_wire.proofs.Common.{◌≡◌, map, take, codes, list_any, header_bytes, values_named, lists_close}
use Rattle.room_wire.proofs.messages.last.closes.Given as goal

abbrev pub invariant-loop-header : goal.invariant-loop-header
invariant-loop-header l = l.close ≡ list_any lists_close
    (values_named (codes "connection") (map (header_bytes l.buf) (take l.header-index l.headers)))
