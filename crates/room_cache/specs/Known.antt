-- What is remembered of the rows.
use Rattle.std.specs.Prelude.{◌≡◌, ℕ, true, List, Some, IfSome}
use Rattle.std.specs.List.{Contains}
use Rattle.std.specs.Ordering.{nat_cmp}
use Rattle.room_acl.specs.Access.{decision}
use Rattle.room_acl.specs.Entries.{EntryModel}
use Rattle.room_records.specs.declared.change.Change.{Change}
use Rattle.room_records.specs.declared.node.Node.{Node}
use Rattle.room_records.specs.declared.session.SessionRow.{SessionRow}
use Rattle.room_records.specs.Names.{name_cmp}
use Rattle.room_records.specs.Records.{Records}
use Rattle.room_records.specs.Changes.{Leave, apply_changes}
use Rattle.room_records.specs.Shelf.{View}
use Rattle.room_cache.specs.Rows.{row_at}
use Rattle.room_cache.specs.Slots.{AreKept}
use Rattle.room_cache.specs.declared.decisions.Decided.{Decided}
use Rattle.room_cache.specs.declared.known.Known.{Known}

abbrev pub IsDecidedBy : List EntryModel → Decided → Type 0
IsDecidedBy entries d = d.decision ≡ decision entries d.subject d.standing d.wanted

-- what is remembered is what the records are. A place is only a hint where to look
pub record IsTrueOf (known : Known) (r : Records) : Type 0 where
  pub sessions : (sid : List ℕ) (row : SessionRow) → row_at name_cmp known.sessions sid ≡ Some row
      → r.session sid ≡ Some row
  pub nodes : (id : ℕ) (node : Node) → row_at nat_cmp known.nodes id ≡ Some node → r.objects.node id ≡ Some node
  pub lists : (id : ℕ) (list : List EntryModel) → row_at nat_cmp known.lists id ≡ Some list
      → r.objects.entries id ≡ list
  pub decisions : (id : ℕ) (made : List Decided) → row_at nat_cmp known.decisions id ≡ Some made
      → (d : Decided) → Contains made d → IsDecidedBy (r.objects.entries id) d
  pub slots : AreKept r known.slots
  pub next : IfSome known.next (λ next. r.objects.next ≡ next)

-- what is still remembered was before, and the changes leave it; of slots it is what they keep after them
pub record IsLeft (changes : List Change) (old new : Known) : Type 0 where
  pub sessions : (sid : List ℕ) (row : SessionRow) → row_at name_cmp new.sessions sid ≡ Some row
      → (row_at name_cmp old.sessions sid ≡ Some row) × Leave (λ r. r.session sid) changes
  pub nodes : (id : ℕ) (node : Node) → row_at nat_cmp new.nodes id ≡ Some node
      → (row_at nat_cmp old.nodes id ≡ Some node) × Leave (λ r. r.objects.node id) changes
  pub lists : (id : ℕ) (list : List EntryModel) → row_at nat_cmp new.lists id ≡ Some list
      → (row_at nat_cmp old.lists id ≡ Some list) × Leave (λ r. r.objects.entries id) changes
  pub decisions : (id : ℕ) (made : List Decided) → row_at nat_cmp new.decisions id ≡ Some made
      → (row_at nat_cmp old.decisions id ≡ Some made) × Leave (λ r. r.objects.entries id) changes
  pub slots : (r : Records) → AreKept r old.slots → AreKept (apply_changes changes r) new.slots
  pub next : IfSome new.next (λ next. (old.next ≡ Some next) × Leave (λ r. r.objects.next) changes)

-- where something is remembered, no fault has shut an intact store
abbrev pub AnsweredIsAvailable : View → Known → Type 0
AnsweredIsAvailable view known = known.has_answered ≡ true → view.is_intact → view.is_available
