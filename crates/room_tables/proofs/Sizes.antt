-- How long a document is: a column of a STRICT table that is a BLOB holds one, or NULL.
use Rattle.room_tables.proofs.Common.{◌≡◌, ℕ, true, true≢false, List, [], ◌∷◌, length, filter, map, option_map}
use Rattle.room_tables.proofs.Common.{unwrap_or, refl, sym, AllByRecursion, Value, Null, Int, Real, Text, Blob, Row}
use Rattle.room_tables.proofs.Common.{column, is_of, passes, Datatype, all-filter, first_of_both, second_of_both}
use Rattle.room_tables.proofs.Common.{Database, IsDatabase, Layout, room_schema, doc_table, number_in, blob_in, has}
use Rattle.room_tables.proofs.Common.{only, one_column, shown_size, size_rows, size_in, records_of, IsRoomDatabase}
use Rattle.sqlite_sql.specs.Text.{length_of}
use Rattle.sqlite_schema.specs.declared.schema.Kind.TheVariants as kind
use Rattle.room_tables.proofs.Each.{rows_pass}

sized : (v : Value) → is_of kind.Blob v ≡ true → number_in (length_of v) ≡ length (blob_in v)
sized Null h = refl
sized (Int n) h = absurd (true≢false (sym h))
sized (Real x) h = absurd (true≢false (sym h))
sized (Text t) h = absurd (true≢false (sym h))
sized (Blob b) h = refl

module _ (l : Layout) (db : Database) where
  abbrev IsTyped : Row → Type 0
  IsTyped r = passes Datatype (room_schema l) db.trees doc_table r ≡ true

  sized_row : (r : Row) → IsTyped r → number_in (length_of (column r 2)) ≡ length (blob_in (column r 2))
  sized_row [] h = refl
  sized_row (x ∷ []) h = refl
  sized_row (x ∷ y ∷ []) h = refl
  sized_row (x ∷ y ∷ v ∷ more) h = sized v (first_of_both _ _ (second_of_both _ _ (first_of_both _ _ h)))

  sized_rows : (rows : List Row) → AllByRecursion IsTyped rows
      → size_in (map shown_size rows)
      ≡ length (unwrap_or (option_map (λ row. blob_in (column row 0)) (only (map (one_column 2) rows))) [])
  sized_rows [] all = refl
  sized_rows (r ∷ []) all = sized_row r all.0
  sized_rows (r ∷ s ∷ more) all = refl

-- what the rows tell is how long the document of the records is
pub same_size : (db : Database) (id : ℕ) → IsRoomDatabase db → IsDatabase db
    → size_in (size_rows db.trees id) ≡ length (unwrap_or ((records_of db.trees).objects.document id) [])
same_size db id room sound = sized_rows room.layout db (filter (has 0 id) (db.trees 5))
    (all-filter _ (has 0 id) (db.trees 5) (rows_pass Datatype db room.layout room.schema sound).doc)
