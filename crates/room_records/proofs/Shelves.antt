-- Calls of a shelf one after the other.
use Rattle.room_records.proofs.Common.{◌≡◌, ◌≢◌, ◌∙◌, Option, None, Some, MatchOption, arith, View, ShelfFrame}
use Rattle.room_records.proofs.Common.{ShelfCall, ShelfRead}
use Rattle.room_records.specs.declared.shelf.ShelfFault.{ShelfFault}
use Rattle.room_records.specs.declared.shelf.ShelfFault.TheVariants.{Store}

-- no fault is not a failure of the store
pub none_not_store : {T : Type 0} (x : T) → None ≢ Some x
none_not_store x is = cc

-- a fault undoes a call, and a read before it changed nothing
undone_by : (a b c : View) (fault : Option ShelfFault)
    → MatchOption fault (Unit {0}) (λ _. c.records ≡ b.records) → b.records ≡ a.records
    → MatchOption fault (Unit {0}) (λ _. c.records ≡ a.records)
undone_by a b c None second first = tt
undone_by a b c (Some fault) second first = second ∙ first

-- nothing was called
pub no_call : (a : View) → ShelfFrame a a
no_call a = record {
  was_intact = λ k. k;
  was_available = λ h. h;
  laid_out = λ h d. d;
  never_falls = omega arith;
}

-- calls after calls
pub calls_then : (a b c : View) → ShelfFrame b c → ShelfFrame a b → ShelfFrame a c
calls_then a b c second first = record {
  was_intact = λ k. first.was_intact (second.was_intact k);
  was_available = λ h. first.was_available (second.was_available h);
  laid_out = λ h d. second.laid_out h (first.laid_out (second.was_available h) d);
  never_falls = omega (arith, first.never_falls, second.never_falls);
}

-- a call after a read is one call
pub call_then : (a b c : View) (fault : Option ShelfFault)
    → ShelfCall b c fault → ShelfRead a b None → ShelfCall a c fault
call_then a b c fault second first = record {
  frame = calls_then a b c second.frame first.call.frame;
  left_laid_out = λ k h d l.
      let was = second.frame.was_intact k in
      let mid = first.call.alive was h in
      second.left_laid_out k mid (first.call.frame.laid_out mid d) (first.stays_laid_out was l);
  alive = λ k h. second.alive k (first.call.alive (second.frame.was_intact k) h);
  quiet = λ is. second.quiet is ∙ first.call.quiet (none_not_store Store);
  store = λ is. grind (arith, second.store is, first.call.frame.never_falls);
  undone = λ h d. undone_by a b c fault (second.undone h (first.call.frame.laid_out (second.frame.was_available h) d))
      (first.same (second.frame.was_available h) d);
}

-- two reads are one
pub read_then : (a b c : View) (fault : Option ShelfFault)
    → ShelfRead b c fault → ShelfRead a b None → ShelfRead a c fault
read_then a b c fault second first = record {
  call = call_then a b c fault second.call first;
  same = λ h d. second.same h (first.call.frame.laid_out (second.call.frame.was_available h) d)
      ∙ first.same (second.call.frame.was_available h) d;
  crash = λ left may. first.crash left (second.crash left may);
  stays_laid_out = λ k l. second.stays_laid_out k (first.stays_laid_out (second.call.frame.was_intact k) l);
}
