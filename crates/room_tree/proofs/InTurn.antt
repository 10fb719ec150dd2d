-- What two reads tell of a room, one after the other.
use Rattle.room_tree.proofs.Common.{common_steps, arith, Option, ObjectRecords, Room, View, ShelfRead, OfRoom}
use Rattle.room_records.specs.declared.shelf.ShelfFault.{ShelfFault}

-- what two reads tell is of the rows before both
pub both_tell : {a b c : View} {f fault : Option ShelfFault} (P Q : ObjectRecords → Room → Type 0)
    → ShelfRead a b f → ShelfRead b c fault → OfRoom a b P → OfRoom b c Q
    → OfRoom a c (λ t room. P t room × Q t room)
both_tell P Q first second told after = grind (arith, common_steps)
