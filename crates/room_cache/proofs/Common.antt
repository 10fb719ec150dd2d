-- What three or more files of these proofs take of a module elsewhere: all take it from here.
pub use Rattle.std.proofs.Common.{Bool, Err, IfSome, IsSome, List, None, Ok, OnErr, OnOk, Option, Result, Some, [], ap}
pub use Rattle.std.proofs.Common.{arith, cond, drop, false, inl, inr, length, refl, rules, subst, sym, true, unwrap_or}
pub use Rattle.std.proofs.Common.{ℕ, ◌&&◌, ◌+◌, ◌<◌, ◌==◌, ◌∙◌, ◌∷◌, ◌≡◌, ◌≤◌, ◌⊎◌}
pub use Rattle.std.specs.Ordering.{eq_by_cmp, is_eq, match_ordering, nat_cmp}
pub use Rattle.room_records.specs.Changes.{Leave, Untouched, apply_change}
pub use Rattle.room_records.specs.Names.{Name, name_cmp}
pub use Rattle.room_records.specs.Records.{ObjectRecords, Records}
pub use Rattle.room_records.specs.Sessions.{slot_cmp}
pub use Rattle.room_records.specs.declared.change.Change.{Change}
pub use Rattle.room_records.specs.declared.change.Change.TheVariants.{DropSlots, PutSlot}
pub use Rattle.room_cache.specs.Known.{IsDecidedBy, IsLeft, IsTrueOf}
pub use Rattle.room_cache.specs.Rows.{row_at, weight}
pub use Rattle.room_cache.specs.Slots.{AreKept, IsKept, fact_size}
pub use Rattle.room_cache.specs.declared.known.Known.{Known}
pub use Rattle.room_cache.specs.declared.slots.SlotFact.{SlotFact}
