use Rattle.room_records.proofs.Common.{◌≡◌, filter_map, listed}
use Rattle.room_records.proofs.node.listing.Given as goal

abbrev pub invariant-loop-node : goal.invariant-loop-node
invariant-loop-node l = l.names.items ≡ filter_map listed l.yielded
