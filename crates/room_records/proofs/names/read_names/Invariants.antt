use Rattle.room_records.proofs.Common.{◌≡◌, take, map, AllByRecursion, IsFileName}
use Rattle.room_records.proofs.names.read_names.Given as goal

abbrev pub invariant-loop-part : goal.invariant-loop-part
invariant-loop-part l = record {
  so_far : l.names.items ≡ map (λ p. p.now) (take l.part-index l.parts);
  lawful : AllByRecursion IsFileName l.names.items;
}
