-- A shelf that trips: its k-th call fails.
use Rattle.std.specs.Prelude.{◌≡◌, ◌+◌, ◌-◌, true, false, Result, Err, OnOk, if◌then◌else◌}
use Rattle.room_records.specs.declared.shelf.ShelfFault.{ShelfFault}
use Rattle.room_records.specs.declared.shelf.ShelfFault.TheVariants.{Store}
use Rattle.room_records.specs.declared.trip.TripShelf.{TripShelf}
use Rattle.room_records.specs.Records.{Records}
use Rattle.room_records.specs.Shelf.{View, ShelfRead, Tells, fault_in}

-- what contracts see of it: the shelf inside, with one failure more once it has tripped
abbrev pub trip_view : {S : Type 0} → (S → View) → TripShelf S → View
trip_view view shelf =
    record (view shelf.inner) { failures = (view shelf.inner).failures + (if shelf.tripped then 1 else 0) }

-- a call by the shelf before and after: each is counted until one trips, which is the last that was left, and it
-- answers `Store`; any other trips nothing
pub record TripCall {S T : Type 0} (old new : TripShelf S) (result : Result T ShelfFault) : Type 0 where
  pub counted : new.left ≡ (if old.tripped then old.left else old.left - 1)
  pub trips : old.tripped ≡ false → old.left ≡ 1 → (result ≡ Err Store) × (new.tripped ≡ true)
  pub others : ((old.tripped ≡ false) × (old.left ≡ 1) → ⊥) → new.tripped ≡ old.tripped

-- a call that only reads, with what it tells of the records
pub record TripRead {S T : Type 0} (view : S → View) (old new : TripShelf S) (result : Result T ShelfFault)
    (P : Records → T → Type 0) : Type 0 where
  pub value : Tells (trip_view view old) (trip_view view new) result P
  pub there : (trip_view view new).is_intact → OnOk result (trip_view view new).is_available
  pub frame : ShelfRead (trip_view view old) (trip_view view new) (fault_in result)
  pub call : TripCall old new result
