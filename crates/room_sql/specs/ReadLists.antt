-- Lists that were read, as the rows of their objects.
use Rattle.std.specs.declared.alloc.Global.{Global}
use Rattle.std.specs.Prelude.{◌≡◌, ℕ, List, Option, Some, IfSome, Vec}
use Rattle.std.specs.List.{AllByRecursion}
use Rattle.std.specs.Ordering.{nat_cmp}
use Rattle.sqlite_trees.specs.Tree.{Trees}
use Rattle.room_acl.specs.Entries.{EntryModel}
use Rattle.room_records.specs.declared.change.Change.{Change}
use Rattle.room_records.specs.declared.change.Change.TheVariants.{PutEntries}
use Rattle.room_cache.specs.Rows.{row_at}
use Rattle.room_tables.specs.Rows.{entry_rows}
use Rattle.room_tables.specs.Steps.{IsReadBack, placed}
use Rattle.room_sql.specs.declared.read_lists.ReadLists.{ReadLists}

-- the object's rows are these entries, at the places 0, 1, 2, ..
pub record IsStored (id : ℕ) (list : List EntryModel) (trees : Trees) : Type 0 where
  pub rows : entry_rows trees id ≡ placed 0 list
  pub back : AllByRecursion IsReadBack list

abbrev pub AreStored : ReadLists → Trees → Type 0
AreStored lists trees = (id : ℕ) (list : Vec EntryModel Global)
    → row_at nat_cmp lists.lists.entries id ≡ Some list → IsStored id list.items trees

-- a list that was kept is that of the object whose entries a change puts
abbrev pub IsKeptFor : Option (Vec EntryModel Global) → Change → Trees → Type 0
IsKeptFor kept (PutEntries id entries) trees = IfSome kept (λ list. IsStored id list.items trees)
IsKeptFor kept _ trees = Unit {0}
