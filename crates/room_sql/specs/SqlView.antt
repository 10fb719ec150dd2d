-- What contracts see of the shelf over tables.
use Rattle.std.specs.Prelude.{◌≡◌, IsTrue}
use Rattle.sqlite_trees.specs.Tree.{Trees}
use Rattle.sqlite_trees.specs.declared.store.Store.{Ghosts}
use Rattle.sqlite.specs.State.{HasCleanDisk}
use Rattle.sqlite.specs.Held.{state}
use Rattle.room_records.specs.Shelf.{View}
use Rattle.room_tables.specs.Layout.{IsRoomOfVersion2, AreOfRoom}
use Rattle.room_tables.specs.Rows.{records_of}
use Rattle.room_sql.specs.declared.sql_shelf.SqlShelf.{SqlShelf}
use Rattle.room_sql.specs.Facts.{AreTrueOf}

-- The records are the rows of the tables, and the store is intact while its disk has returned what was written.
-- It is laid out as a room of version 2; that says also that what the shelf remembers is true of its rows
abbrev pub sql_view : {S : Type 0} (store : Ghosts S) → SqlShelf S store → View
sql_view store shelf = record {
  records = records_of (state store shelf.conn).now.trees;
  failures = shelf.failures;
  is_intact = HasCleanDisk (state store shelf.conn);
  is_available = HasCleanDisk (state store shelf.conn) × IsTrue (state store shelf.conn).is_open;
  is_laid_out = IsRoomOfVersion2 (state store shelf.conn).now
      × AreTrueOf shelf.known (state store shelf.conn).now.trees;
  crash_may_leave = λ left. HasCleanDisk (state store shelf.conn)
      × ((trees : Trees) × (state store shelf.conn).may_leave trees × (left ≡ records_of trees));
  leaves_laid_out = (trees : Trees) → (state store shelf.conn).may_leave trees → AreOfRoom trees;
}
