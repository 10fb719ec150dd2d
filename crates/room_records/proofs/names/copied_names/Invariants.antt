use Rattle.room_records.proofs.Common.{◌≡◌, take}
use Rattle.room_records.proofs.names.copied_names.Given as goal

abbrev pub invariant-loop-name : goal.invariant-loop-name
invariant-loop-name l = l.copy.items ≡ take l.name-index l.names
