-- What calls of a shelf say.
use Rattle.std.specs.Prelude.{◌≡◌, ◌≢◌, ℕ, ◌-◌, ◌^◌, ◌<◌, ◌≤◌, ◌⊎◌, List, [], ◌∷◌, Option, None, Some, MatchOption}
use Rattle.std.specs.Prelude.{Result, Ok, Err, IfOk, unwrap_or, length, map, eqb}
use Rattle.std.specs.List.{AllByRecursion, Contains, IsDistinct, filter_map}
use Rattle.std.specs.Option.{option_map}
use Rattle.std.specs.declared.cmp.Ordering.TheVariants.{Less}
use Rattle.room_acl.specs.declared.subject.Kind.{Kind}
use Rattle.room_records.specs.declared.node.Node.{Node}
use Rattle.room_records.specs.declared.shelf.ShelfFault.{ShelfFault}
use Rattle.room_records.specs.declared.shelf.ShelfFault.TheVariants.{Store}
use Rattle.room_records.specs.Names.{Name, name_cmp}
use Rattle.room_records.specs.Records.{ObjectRecords, Records, IsChild}
use Rattle.room_records.specs.Rules.{NodeRules}

-- the count of failures rose, or is where it is no longer kept
abbrev pub FailureCounted : ℕ → ℕ → Type 0
FailureCounted old new = (old < new) ⊎ (2 ^ 64 - 1 ≤ new)

-- what contracts see of a shelf
pub record View : Type 1 where
  -- the rows of the room
  pub records : Records
  -- how often the store has failed; at 2^64 - 1 it is no longer counted
  pub failures : ℕ
  -- the store has returned what was written, whether it is still there or not
  pub is_intact : Type 0
  -- the store is intact and there: no fault has shut it
  pub is_available : Type 0
  -- the store is laid out for the records
  pub is_laid_out : Type 0
  -- the records that a crash now may leave
  pub crash_may_leave : Records → Type 0
  -- whatever a crash now may leave is laid out for the records
  pub leaves_laid_out : Type 0

-- the fault that a call answered
abbrev pub fault_in : {T : Type 0} → Result T ShelfFault → Option ShelfFault
fault_in (Ok value) = None
fault_in (Err fault) = Some fault

-- the frame of calls, one or many: the store is no better than it was, what it is laid out for stays, and the count of
-- failures never falls
pub record ShelfFrame (old new : View) : Type 0 where
  pub was_intact : new.is_intact → old.is_intact
  pub was_available : new.is_available → old.is_available
  pub laid_out : new.is_available → old.is_laid_out → new.is_laid_out
  pub never_falls : old.failures ≤ new.failures

-- the frame of one call, by the fault that it answered, if any: what a crash leaves is laid out for stays, an answer
-- other than a fault comes while the store is there, the count of failures rises exactly where the call answers Store,
-- unless it is no longer kept, and a fault changes no record
pub record ShelfCall (old new : View) (fault : Option ShelfFault) : Type 0 where
  pub frame : ShelfFrame old new
  pub left_laid_out : new.is_intact → old.is_available → old.is_laid_out → old.leaves_laid_out → new.leaves_laid_out
  pub alive : new.is_intact → old.is_available → MatchOption fault new.is_available (λ _. Unit {0})
  pub quiet : fault ≢ Some Store → new.failures ≡ old.failures
  pub store : fault ≡ Some Store → FailureCounted old.failures new.failures
  pub undone : new.is_available → old.is_laid_out → MatchOption fault (Unit {0}) (λ _. new.records ≡ old.records)

-- a crash leaves records like these, and no others
abbrev pub LeavesNew : View → (Records → Type 0) → Type 0
LeavesNew new Made = (left : Records) → new.crash_may_leave left → Made left

-- the frame of a call that only reads: the records are as they were too, and a crash may leave no more than before
pub record ShelfRead (old new : View) (fault : Option ShelfFault) : Type 0 where
  pub call : ShelfCall old new fault
  pub same : new.is_available → old.is_laid_out → new.records ≡ old.records
  pub crash : LeavesNew new old.crash_may_leave
  pub stays_laid_out : new.is_intact → old.leaves_laid_out → new.leaves_laid_out

-- a crash leaves what it could leave before, or records like these
abbrev pub LeavesOldOrNew : View → View → (Records → Type 0) → Type 0
LeavesOldOrNew old new Made = LeavesNew new (λ left. old.crash_may_leave left ⊎ Made left)

-- what a read tells of the records, while the store is there and laid out
abbrev pub Tells : {T : Type 0} → View → View → Result T ShelfFault → (Records → T → Type 0) → Type 0
Tells old new result P = new.is_available → old.is_laid_out → IfOk result (P old.records)

-- a shelf as it is made: available, laid out, without a failure
pub record IsNewShelf (made : View) : Type 0 where
  pub available : made.is_available
  pub laid_out : made.is_laid_out
  pub no_failure : made.failures ≡ 0

abbrev pub name_of : Node → Name
name_of node = unwrap_or node.name []

-- each name is below the next one, by bytes
abbrev pub InNameOrder : List Node → Type 0
InNameOrder [] = Unit {0}
InNameOrder (a ∷ []) = Unit {0}
InNameOrder (a ∷ b ∷ nodes) = (name_cmp (name_of a) (name_of b) ≡ Less) × InNameOrder (b ∷ nodes)

-- these are the nodes in a folder, each once, and by the rules on nodes in order of their names
pub record AreChildren (t : ObjectRecords) (parent : ℕ) (nodes : List Node) : Type 0 where
  pub each : AllByRecursion (IsChild t parent) nodes
  pub every : (node : Node) → IsChild t parent node → Contains nodes node
  pub once : IsDistinct eqb (map (λ (node : Node). node.id) nodes)
  pub in_order : NodeRules t.node → InNameOrder nodes

-- what a listing shows of a node with a name
abbrev pub listed : Node → Option (Name × Kind)
listed node = option_map (λ (name : Name). (name, node.kind)) node.name

-- the names and kinds of the nodes in a folder, in the order of the nodes
abbrev pub AreNames : ObjectRecords → ℕ → List (Name × Kind) → Type 0
AreNames t parent names = (nodes : List Node) × AreChildren t parent nodes × (names ≡ filter_map listed nodes)

-- how many nodes are in a folder
abbrev pub IsChildCount : ObjectRecords → ℕ → ℕ → Type 0
IsChildCount t parent count = (nodes : List Node) × AreChildren t parent nodes × (count ≡ length nodes)

-- the child of this name, if there is one
abbrev pub IsChildNamed : ObjectRecords → ℕ → Name → Option Node → Type 0
IsChildNamed t parent name None = (node : Node) → IsChild t parent node → node.name ≢ Some name
IsChildNamed t parent name (Some node) = IsChild t parent node × (node.name ≡ Some name)
