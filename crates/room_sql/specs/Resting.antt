-- What a crash leaves while no transaction is open.
use Rattle.std.proofs.Common.{◌≡◌, ◌∙◌, sym, ap, subst}
use Rattle.std.specs.Coded.{→_prop}
use Rattle.sqlite_trees.specs.Tree.{Trees}
use Rattle.sqlite_trees.specs.Props.{Trees-set}
use Rattle.sqlite.specs.Schema.{Schema}
use Rattle.room_records.specs.Records.{Records}
use Rattle.room_tables.specs.Layout.{IsRoomOfVersion2, AreOfRoom}
use Rattle.room_tables.specs.Rows.{records_of}

pub rests_prop : (A : Type 0) (a b : Trees) → IsProp (A → a ≡ b)
rests_prop A a b = →_prop (Trees-set a b)

module _ {MayLeave : Trees → Type 0} {now committed : Trees} (rests : now ≡ committed) where
  -- the records of what is left are those that are seen
  pub leaves_rest : ((trees : Trees) → MayLeave trees → trees ≡ committed) → (left : Records)
      → (trees : Trees) × MayLeave trees × (left ≡ records_of trees) → left ≡ records_of now
  leaves_rest only left may = may.2 ∙ ap records_of (only may.0 may.1 ∙ sym rests)

  pub leaves_these : MayLeave committed → (trees : Trees) × MayLeave trees × (records_of now ≡ records_of trees)
  leaves_these these = (committed, these, ap records_of rests)

  -- where a room is seen, what is left is its trees
  pub leaves_a_room : {schema : Schema} → IsRoomOfVersion2 (record { schema = schema; trees = now })
      → ((trees : Trees) → MayLeave trees → trees ≡ committed) → (trees : Trees) → MayLeave trees → AreOfRoom trees
  leaves_a_room {schema} room only trees may = subst AreOfRoom (rests ∙ sym (only trees may)) (schema, room)
