-- What changes do to the rows of nodes and of entries. It speaks of rows, and so needs no rule of the records.
use Rattle.std.specs.Prelude.{◌≡◌, ◌+◌, ℕ, Bool, true, false, ◌==◌, ◌≢◌, List, [], ◌∷◌, length, filter, Option}
use Rattle.std.specs.Prelude.{None, Some}
use Rattle.std.specs.Prelude.{if◌then◌else◌}
use Rattle.sqlite_value.specs.Order.{Row}
use Rattle.sqlite_trees.specs.Tree.{Trees}
use Rattle.sqlite.specs.State.{State}
use Rattle.room_records.specs.declared.change.Change.{Change}
use Rattle.room_records.specs.declared.change.Change.TheVariants.{PutNode, DropNode, PutEntries}
use Rattle.room_records.specs.Changes.{apply_change}
use Rattle.room_tables.specs.Rows.{has, entry_rows}
use Rattle.room_tables.specs.Steps.{Steps}
use Rattle.room_sql.specs.declared.new_object.NewObject.{NewObject}
use Rattle.room_sql.specs.NewObject.{is_new, after_change}

-- how many rows of nodes there are in a folder
abbrev pub in_folder : ℕ → List Row → ℕ
in_folder folder rows = length (filter (has 2 folder) rows)

-- no row has the number
abbrev pub HasNone : ℕ → List Row → Type 0
HasNone id rows = filter (has 0 id) rows ≡ []

abbrev pub is_parent : Option ℕ → ℕ → Bool
is_parent None folder = false
is_parent (Some parent) folder = parent == folder

-- one row more in the folder that is the parent, and the rows of all others as they were
pub record HasOneMore (parent : Option ℕ) (old new : List Row) : Type 0 where
  pub counts : (folder : ℕ)
      → in_folder folder new ≡ in_folder folder old + (if is_parent parent folder then 1 else 0)
  pub others : (folder : ℕ) → is_parent parent folder ≡ false → filter (has 2 folder) new ≡ filter (has 2 folder) old

-- A node of a number that no row has is one row more. Of a node that is put in another's place, and of one that is
-- dropped, nothing is said. All other changes leave the rows of nodes as they are
abbrev pub After : Change → List Row → List Row → Type 0
After (PutNode node) old new = HasNone node.id old → HasOneMore node.parent old new
After (DropNode id) old new = Unit {0}
After _ old new = new ≡ old

-- A node that is put leaves the rows of all entries, and entries that are put leave those of other objects. Of other
-- changes nothing is said
abbrev pub LeavesEntries : Change → Trees → Trees → Type 0
LeavesEntries (PutNode node) old new = (q : ℕ) → entry_rows new q ≡ entry_rows old q
LeavesEntries (PutEntries id entries) old new = (q : ℕ) → q ≢ id → entry_rows new q ≡ entry_rows old q
LeavesEntries _ old new = Unit {0}

-- what a change makes of a database, inside a transaction: of its records, and of its rows of nodes and entries
pub record MakesChange (change : Change) (old new : State) : Type 0 where
  pub steps : Steps old new (apply_change change)
  pub nodes : After change (old.now.trees 1) (new.now.trees 1)
  pub entries : LeavesEntries change old.now.trees new.now.trees

-- a node that a commit takes as new had no row
abbrev pub IsNewIfKnown : NewObject → Change → List Row → Type 0
IsNewIfKnown object (PutNode node) old = is_new object node.id ≡ true → HasNone node.id old
IsNewIfKnown object _ old = Unit {0}

-- what changes do in their order, by what is known of an object before them
abbrev pub AfterAll : NewObject → List Change → List Row → List Row → Type 0
AfterAll object [] old new = new ≡ old
AfterAll object (change ∷ changes) old new = (mid : List Row) × IsNewIfKnown object change old × After change old mid
    × AfterAll (after_change object change) changes mid new
