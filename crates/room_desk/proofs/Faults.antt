-- Faults of the shelf that a call passes on.
use Rattle.room_desk.proofs.Common.{◌≡◌, None, Some, Result, Ok, Err, IsErr, IsErrAnd, ShelfFault, Memory, Store, View}
use Rattle.room_desk.proofs.Common.{ShelfCall, ShelfRead, fault_in, call_then, none_not_store}

-- the fault of a call after a read
pub passed_on : {T : Type 0} (a b c : View) (fault : ShelfFault) (r : Result T ShelfFault)
    → IsErr r → IsErrAnd r (λ e. e ≡ fault)
    → ShelfCall b c (Some fault) → ShelfRead a b None → ShelfCall a c (fault_in r)
passed_on a b c fault (Ok x) err is second first = absurd cc
passed_on a b c fault (Err e) err is second first =
    rw is (call_then a b c (Some fault) second first)

-- memory that is refused after a read
pub memory_after : {T : Type 0} (a b : View) (r : Result T ShelfFault)
    → IsErr r → IsErrAnd r (λ e. e ≡ Memory) → ShelfRead a b None → ShelfCall a b (fault_in r)
memory_after a b (Ok x) err is read = absurd cc
memory_after a b (Err e) err is read = rw is (record {
  frame = read.call.frame;
  left_laid_out = λ k h d. read.stays_laid_out k;
  alive = λ k h. tt;
  quiet = λ other. read.call.quiet (none_not_store Store);
  store = λ stored. absurd cc;
  undone = read.same;
})
