-- Values by key.
use Rattle.std.specs.Prelude.{Option, None, Some, IsSome}
use Rattle.std.specs.declared.cmp.Ordering.{Ordering}
use Rattle.std.specs.BTreeMap.{BTreeMap, get}

-- the value of a slot that is there
abbrev pub value_in : {X : Type 0} → Option (Option X) → Option X
value_in None = None
value_in (Some slot) = slot

module _ {K X : Type 0} (cmp : K → K → Ordering) where
  -- the value that the table holds at a key
  abbrev pub held : BTreeMap K (Option X) → K → Option X
  held slots key = value_in (get cmp slots key)

  -- a value can be put at the key
  abbrev pub HasSpace : BTreeMap K (Option X) → K → Type 0
  HasSpace slots key = IsSome (get cmp slots key)
