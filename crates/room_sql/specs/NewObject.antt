-- What a commit knows of the object that it makes.
use Rattle.std.specs.Prelude.{◌≡◌, ◌==◌, ◌-◌, ℕ, Bool, false, [], if◌then◌else◌, nat_lt}
use Rattle.sqlite_trees.specs.Tree.{Trees}
use Rattle.room_records.specs.declared.change.Change.{Change}
use Rattle.room_records.specs.declared.change.Change.TheVariants.{PutNode, PutEntries, PutNext}
use Rattle.room_tables.specs.Rows.{records_of}
use Rattle.room_sql.specs.declared.new_object.NewObject.{NewObject}
use Rattle.room_sql.specs.declared.new_object.NewObject.TheVariants.{Unknown, New, WithoutEntries, WithoutDocument}

-- a node of the number is added, and never put in another's place
abbrev pub is_new : NewObject → ℕ → Bool
is_new (New new) id = new == id
is_new _ id = false

-- its row was added, and it has neither entries nor a document
abbrev pub lacks_entries : NewObject → ℕ → Bool
lacks_entries (WithoutEntries made) id = made == id
lacks_entries _ id = false

-- its row was added, and it has no document
abbrev pub lacks_doc : NewObject → ℕ → Bool
lacks_doc (WithoutEntries made) id = made == id
lacks_doc (WithoutDocument made) id = made == id
lacks_doc _ id = false

-- After a change: the number below the next one that was put is new, then its node is added, and then its entries are.
-- After any other change nothing is known
abbrev pub after_change : NewObject → Change → NewObject
after_change object (PutNode node) = if is_new object node.id then WithoutEntries node.id else Unknown
after_change object (PutEntries id entries) = if lacks_entries object id then WithoutDocument id else Unknown
after_change object (PutNext next) = if nat_lt 0 next then New (next - 1) else Unknown
after_change object _ = Unknown

-- An object that is known to be without entries has none in the trees. Of a new number, and of an object without a
-- document, nothing need be said: an INSERT that answers Ok tells that no row was there
abbrev pub NoEntriesIfKnown : NewObject → Trees → Type 0
NoEntriesIfKnown (WithoutEntries id) trees = (records_of trees).objects.entries id ≡ []
NoEntriesIfKnown _ trees = Unit {0}
