-- What a shelf remembers is true of its rows of nodes.
use Rattle.std.specs.Prelude.{◌≡◌, ℕ, List, Some}
use Rattle.std.specs.List.{filter_map}
use Rattle.std.specs.Ordering.{nat_cmp}
use Rattle.sqlite_value.specs.Order.{Row}
use Rattle.room_acl.specs.declared.subject.Kind.{Kind}
use Rattle.room_records.specs.Names.{Name}
use Rattle.room_cache.specs.Rows.{row_at}
use Rattle.room_tables.specs.Rows.{listed_of}
use Rattle.room_tables.specs.Names.{AreNameRows}
use Rattle.room_sql.specs.declared.node_facts.NodeFacts.{NodeFacts}
use Rattle.room_sql.specs.NodeRows.{in_folder}

-- the names and kinds of a folder's rows, in order of the names, as they are read
abbrev pub AreListed : ℕ → List Row → List (Name × Kind) → Type 0
AreListed folder rows names =
    (shown : List Row) × AreNameRows (λ tree. rows) folder shown × (names ≡ filter_map listed_of shown)

-- counts and names are those of the rows in their folder, exactly
pub record KnowsRows (known : NodeFacts) (rows : List Row) : Type 0 where
  pub counts : (folder count : ℕ) → row_at nat_cmp known.counts folder ≡ Some count → count ≡ in_folder folder rows
  pub names : (folder : ℕ) (names : List (Name × Kind)) → row_at nat_cmp known.names folder ≡ Some names
      → AreListed folder rows names

-- it is true of any rows
abbrev pub KnowsNoRows : NodeFacts → Type 0
KnowsNoRows known = (rows : List Row) → KnowsRows known rows
