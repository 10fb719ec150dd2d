-- Lists below an object that are renewed after its own. All of it is our own rule.
use Rattle.std.specs.Prelude.{◌≡◌, ◌≢◌, ℕ, ◌≤◌, ◌⊎◌, Bool, true, false, not, ◌==◌, List, [], ◌∷◌, ◌++◌}
use Rattle.std.specs.Prelude.{reverse, IsTrue, IsSome, is_some, MatchOption, length, if◌then◌else◌}
use Rattle.std.specs.List.{AllByRecursion, count_by, list_any}
use Rattle.std.specs.Option.{option_map_or}
use Rattle.std.specs.Prelude.{Vec, Option, None, Some}
use Rattle.std.specs.declared.alloc.Global.{Global}
use Rattle.room_acl.specs.Entries.{EntryModel}
use Rattle.room_records.specs.declared.node.Node.{Node}
use Rattle.room_records.specs.declared.change.Change.{Change}
use Rattle.room_records.specs.declared.change.Change.TheVariants.{PutNode, DropNode, PutEntries, PutDoc, PutSession}
use Rattle.room_records.specs.declared.change.Change.TheVariants.{PutSlot, DropSlots, PutNext}
use Rattle.room_records.specs.Names.{Name, Path}
use Rattle.room_records.specs.Records.{ObjectRecords}
use Rattle.room_records.specs.Room.{Room, object_at, list_under}
use Rattle.room_records.specs.Representation.{HasPath}
use Rattle.room_records.specs.Changes.{apply_all_to_objects}

-- the list of what is below a path, where the object at the path has this list. The names come from below
abbrev pub list_below : Room → Path → List EntryModel → List Name → List EntryModel
list_below room path list [] = list
list_below room path list (name ∷ above) =
    list_under (object_at room (path ++ reverse (name ∷ above))) (list_below room path list above)

-- entries put for an object below a path: the list that it has from then on, and has not yet
pub record IsRenewed (t : ObjectRecords) (room : Room) (path : Path) (list : List EntryModel) (id : ℕ)
    (entries : List EntryModel) : Type 0 where
  pub rest : Path
  pub below : rest ≢ []
  pub at : HasPath t (path ++ rest) id
  pub is_list : entries ≡ list_below room path list (reverse rest)
  pub changes : entries ≢ t.entries id

-- the entries that a change puts, and of which object
abbrev pub entries_put : Change → Option (ℕ × List EntryModel)
entries_put (PutEntries id entries) = Some (id, entries.items)
entries_put (PutNode node) = None
entries_put (DropNode id) = None
entries_put (PutDoc id bytes) = None
entries_put (PutSession row) = None
entries_put (PutSlot row) = None
entries_put (DropSlots sid) = None
entries_put (PutNext next) = None

-- a change that puts such entries
abbrev pub IsRenewal : ObjectRecords → Room → Path → List EntryModel → Change → Type 0
IsRenewal t room path list change =
    MatchOption (entries_put change) ⊥ (λ (id, entries). IsRenewed t room path list id entries)

abbrev pub puts_entries : Change → Bool
puts_entries change = is_some (entries_put change)

abbrev pub puts_entries_of : ℕ → Change → Bool
puts_entries_of id change = option_map_or (λ (at, entries). id == at) (entries_put change) false

-- these changes renew the lists below a path, where the object at the path gets this list: each puts a list that
-- changes, each list that changes is put, and none twice
pub record RenewsBelow (t : ObjectRecords) (room : Room) (path : Path)
    (list : List EntryModel) (changes : List Change) : Type 0 where
  pub each : AllByRecursion (IsRenewal t room path list) changes
  pub every : (rest : Path) (id : ℕ) → rest ≢ [] → HasPath t (path ++ rest) id
      → (t.entries id ≡ list_below room path list (reverse rest)) ⊎ IsTrue (list_any (puts_entries_of id) changes)
  pub once : (id : ℕ) → count_by (puts_entries_of id) changes ≤ 1

-- a list of changes goes on with those that renew the lists below
pub record AddsRenewals (t : ObjectRecords) (room : Room) (path : Path)
    (list : List EntryModel) (old new : List Change) : Type 0 where
  pub added : List Change
  pub goes_on : new ≡ old ++ added
  pub renews : RenewsBelow t room path list added

-- a list of changes goes on with some that put entries, and no others
pub record AddsEntries (old new : List Change) : Type 0 where
  pub added : List Change
  pub goes_on : new ≡ old ++ added
  pub entries : AllByRecursion (λ change. puts_entries change ≡ true) added

-- the entries of the folder with this number; the root has none above it
abbrev pub entries_of : ObjectRecords → Option ℕ → List EntryModel
entries_of t None = []
entries_of t (Some folder) = t.entries folder

-- a row is put, and a list that changes for it, after those below that change with it
abbrev pub PutsList : ObjectRecords → Room → Path → Node → Option (Vec EntryModel Global) → List Change → Type 0
PutsList t room path node None changes = changes ≡ PutNode node ∷ []
PutsList t room path node (Some list) changes =
    (added : List Change) × RenewsBelow t room path list.items added
    × (changes ≡ PutNode node ∷ added ++ PutEntries node.id list ∷ [])

-- the entries that are put for a new object: an empty list is not put, since the rows hold no entries of an object that
-- was not there
abbrev pub puts_new : ℕ → Vec EntryModel Global → List Change
puts_new id list = if length list.items == 0 then [] else PutEntries id list ∷ []

-- entries are put once for an object at most, and only for one that is there afterwards and whose list changes; and at
-- most so many other rows change
pub record ChangesFewRows (most : ℕ) (t : ObjectRecords) (changes : List Change) : Type 0 where
  pub once : (id : ℕ) → count_by (puts_entries_of id) changes ≤ 1
  pub needed : (id : ℕ) → IsTrue (list_any (puts_entries_of id) changes)
      → (apply_all_to_objects changes t).entries id ≢ t.entries id
  pub there : (id : ℕ) → IsTrue (list_any (puts_entries_of id) changes)
      → IsSome ((apply_all_to_objects changes t).node id)
  pub others : count_by (λ change. not (puts_entries change)) changes ≤ most
