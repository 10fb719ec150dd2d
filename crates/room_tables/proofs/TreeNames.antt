-- The list of objects names the trees as the schema does.
use Rattle.room_tables.proofs.Common.{◌≡◌, ℕ, ◌+◌, ◌-◌, Bool, List, [], ◌∷◌, Option, Some, option_map, codes, unwrap_or}
use Rattle.room_tables.proofs.Common.{refl, ap, ap₂, ◌∙◌, arith, is_eq, inl, inr, find, AllZip, cases_Bool, Text, Row}
use Rattle.room_tables.proofs.Common.{column, value_cmp, rowid, IsTableRow, Table, Schema, Database, IsDatabase, Layout}
use Rattle.room_tables.proofs.Common.{Fresh, Upgraded, room_schema, first_schema, slots_tree, number_in, tree_named}
use Rattle.room_tables.proofs.Common.{kept_rows}
use Rattle.std.specs.Option.{option_or}
use lib.Ieee.{is_nan, lt}

abbrev is_named : List ℕ → Row → Bool
is_named name row = is_eq (value_cmp (column row 2) (Text name))

abbrev tree_of : Row → ℕ
tree_of row = number_in (rowid row) - 1

-- the tree of the table of this name
abbrev tree_in : List Table → List ℕ → Option ℕ
tree_in tables name = option_map (λ (t : Table). t.tree)
    (find (λ (t : Table). is_eq (value_cmp (Text t.name) (Text name))) tables)

one_less : (n : ℕ) → (n + 1) - 1 ≡ n
one_less n = omega arith

listed_as : (rows : List Row) (tables : List Table) (name : List ℕ) → AllZip IsTableRow rows tables
    → option_map tree_of (find (is_named name) rows) ≡ tree_in tables name
listed_as [] [] name h = refl
listed_as [] (t ∷ tables) name h = absurd h
listed_as (r ∷ rows) [] name h = absurd h
listed_as (r ∷ rows) (t ∷ tables) name h =
    let named : is_named name r ≡ is_eq (value_cmp (Text t.name) (Text name)) =
    ap (λ v. is_eq (value_cmp v (Text name))) h.0.described.name_is in
    let tree : tree_of r ≡ t.tree = ap (λ v. number_in v - 1) h.0.described.id ∙ one_less t.tree in
    elim (cases_Bool (is_eq (value_cmp (Text t.name) (Text name)))) [
      | inl found ↦ rw (named, found) (ap Some tree)
      | inr other ↦ rw (named, other) (listed_as rows tables name h.1)
    ]

-- so it is in any sound database
pub named_as : (db : Database) (name : List ℕ) → IsDatabase db
    → tree_named db.trees name ≡ tree_in db.schema.tables name
named_as db name sound = listed_as _ db.schema.tables name sound.lists.listed.tables

slots_as : (db : Database) (schema : Schema) → IsDatabase db → db.schema ≡ schema
    → kept_rows db.trees ≡ unwrap_or (option_map db.trees
    (option_or (tree_in schema.tables (codes "kept")) (tree_in schema.tables (codes "slot")))) []
slots_as db schema sound is = ap₂ (λ a b. unwrap_or (option_map db.trees (option_or a b)) [])
    (named_as db _ sound ∙ ap (λ (s : Schema). tree_in s.tables (codes "kept")) is)
    (named_as db _ sound ∙ ap (λ (s : Schema). tree_in s.tables (codes "slot")) is)

-- what slots keep is in the table of the layout
pub slots_listed : (db : Database) (l : Layout) → IsDatabase db → db.schema ≡ room_schema l
    → kept_rows db.trees ≡ db.trees (slots_tree l)
unfolding value_cmp is_nan lt
slots_listed db Fresh sound is = slots_as db _ sound is
slots_listed db Upgraded sound is = slots_as db _ sound is

-- and in version 1 in its own
pub slot_listed : (db : Database) → IsDatabase db → db.schema ≡ first_schema → kept_rows db.trees ≡ db.trees 8
unfolding value_cmp is_nan lt
slot_listed db sound is = slots_as db _ sound is
