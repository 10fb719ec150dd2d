-- Sessions by name, and what their slots keep.
use Rattle.std.specs.Prelude.{◌≡◌, ℕ, ◌<◌, ◌≤◌, Option, Some, IsSome}
use Rattle.std.specs.Option.{option_map}
use Rattle.std.specs.Ordering.{nat_cmp, ordering_then}
use Rattle.std.specs.declared.cmp.Ordering.{Ordering}
use Rattle.std.specs.BTreeMap.{BTreeMap}
use Rattle.room_slots.specs.KeptModel.{KeptModel}
use Rattle.room_records.specs.declared.session.SessionRow.{SessionRow}
use Rattle.room_records.specs.declared.mem.sessions.SessionCell.{SessionCell}
use Rattle.room_records.specs.Limits.{max_slots}
use Rattle.room_records.specs.Names.{Name, name_cmp}
use Rattle.room_records.specs.Table.{held}

abbrev pub slot_cmp : Name × ℕ → Name × ℕ → Ordering
slot_cmp a b = ordering_then (name_cmp a.0 b.0) (nat_cmp a.1 b.1)

-- the row of a name
abbrev pub session_row : Name → SessionCell → SessionRow
session_row sid cell = record { sid = sid; owner = cell.owner; slots = cell.slots; is_open = cell.is_open }

abbrev pub session_in : BTreeMap Name (Option SessionCell) → Name → Option SessionRow
session_in rows sid = option_map (session_row sid) (held name_cmp rows sid)

abbrev pub kept_in : BTreeMap (Name × ℕ) (Option KeptModel) → Name → ℕ → Option KeptModel
kept_in kept sid slot = held slot_cmp kept (sid, slot)

-- no slot is 16 or more: they are counted from 0
abbrev pub AreFewSlots : (Name → ℕ → Option KeptModel) → Type 0
AreFewSlots kept = (sid : Name) (slot : ℕ) → IsSome (kept sid slot) → slot < max_slots

-- each session has at most 16 slots
abbrev pub HaveSlotCounts : (Name → Option SessionRow) → Type 0
HaveSlotCounts sessions = (sid : Name) (row : SessionRow) → sessions sid ≡ Some row → row.slots ≤ max_slots
