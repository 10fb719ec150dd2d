-- What is remembered of slots.
use Rattle.std.specs.Prelude.{◌≡◌, ◌<◌, ◌+◌, ℕ, List, [], length, Option, Some, unwrap_or}
use Rattle.room_slots.specs.KeptModel.{KeptModel}
use Rattle.room_slots.specs.Slots.{kept_seq}
use Rattle.room_records.specs.Limits.{max_slots}
use Rattle.room_records.specs.Names.{Name}
use Rattle.room_records.specs.Records.{Records}
use Rattle.room_records.specs.Sessions.{slot_cmp}
use Rattle.room_cache.specs.Rows.{row_at}
use Rattle.room_cache.specs.declared.slots.SlotFact.{SlotFact}
use Rattle.room_cache.specs.declared.slots.SlotFact.TheVariants.{Number, Whole}

-- bytes of requests and replies
abbrev pub max_bytes : ℕ
max_bytes = 1048576

abbrev pub seq_of : SlotFact → ℕ
seq_of (Number seq) = seq
seq_of (Whole kept) = kept.seq

abbrev pub fact_size : SlotFact → ℕ
fact_size (Number seq) = 0
fact_size (Whole kept) = length kept.request + length (unwrap_or kept.reply [])

-- it has the number of what the slot keeps, or is all of it
abbrev pub IsKept : SlotFact → Option KeptModel → Type 0
IsKept fact kept = (kept_seq kept ≡ Some (seq_of fact)) × ((row : KeptModel) → fact ≡ Whole row → kept ≡ Some row)

-- each is what its slot keeps, and none is of a slot after the first 16
abbrev pub AreKept : Records → List ((Name × ℕ) × SlotFact) → Type 0
AreKept r slots = (sid : Name) (slot : ℕ) (fact : SlotFact) → row_at slot_cmp slots (sid, slot) ≡ Some fact
    → (slot < max_slots) × IsKept fact (r.slot sid slot)
