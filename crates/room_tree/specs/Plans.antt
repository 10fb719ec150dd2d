-- What is planned for a command, over rows that stand for a room (our own rule).
use Rattle.std.specs.Prelude.{◌≡◌, ℕ, [], Option, None, Some, Result, IsSome, IsNone}
use Rattle.std.specs.List.{AllByRecursion}
use Rattle.room_acl.specs.SubjectModel.{SubjectModel}
use Rattle.room_records.specs.Records.{ObjectRecords}
use Rattle.room_records.specs.Changes.{apply_all_to_objects, IsOfObjects, ObjectRulesHoldAfterEach}
use Rattle.room_commands.specs.CommandModel.{CommandModel}
use Rattle.room_tree.specs.declared.planning.Outcome.{Outcome}
use Rattle.room_records.specs.Room.{Room, object_at}
use Rattle.room_commands.specs.CommandModel as C
use Rattle.room_records.specs.Names.{Path}
use Rattle.room_commands.specs.Checks.{first_refusal, checks}
use Rattle.room_commands.specs.ReplyModel.{reply_model, IsNotDone, Refusal}
use Rattle.room_commands.specs.Effect.{effect, moved}
use Rattle.room_commands.specs.Needs.{NeedsAllowed}
use Rattle.room_records.specs.Representation.{RepresentsRoom, HasPath}
use Rattle.room_tree.specs.Renewals.{ChangesFewRows}
use Rattle.room_tree.specs.declared.refusal.Stop.{Stop}
use Rattle.room_tree.specs.Stops.{OrStopped}

-- where an object that stays stands afterwards
abbrev pub place_after : CommandModel → Option Refusal → Path → Path
place_after command (Some refusal) path = path
place_after (C.Rename from to) None path = moved from to path
place_after command None path = path

-- an object that stays keeps its number, and a new one takes the next
pub record KeepsNumbers (t after : ObjectRecords) (room : Room)
    (caller : SubjectModel) (command : CommandModel) : Type 0 where
  pub kept : (path : Path) (id : ℕ) → HasPath t path id → IsSome (t.node id)
      → IsSome (object_at (effect room caller command).room
      (place_after command (first_refusal (checks room caller command)) path))
      → HasPath after (place_after command (first_refusal (checks room caller command)) path) id
  pub new : (id : ℕ) → IsNone (t.node id) → IsSome (after.node id) → id ≡ t.next

-- the commands that only read
abbrev pub OnlyReads : CommandModel → Type 0
OnlyReads (C.Stat path) = Unit {0}
OnlyReads (C.ListNames path) = Unit {0}
OnlyReads (C.Read path) = Unit {0}
OnlyReads (C.GetList path) = Unit {0}
OnlyReads (C.Access mask path) = Unit {0}
OnlyReads command = ⊥

-- how many rows a command may change beside entries: a new object has its row and the next number, a new document its
-- bytes too
abbrev pub most_rows : CommandModel → ℕ
most_rows (C.Mkdir path) = 2
most_rows (C.Create bytes path) = 3
most_rows (C.Write bytes path) = 1
most_rows (C.Append bytes path) = 1
most_rows (C.Remove path) = 1
most_rows (C.Rename path to) = 1
most_rows (C.SetList flag entries path) = 1
most_rows (C.Chown group owner path) = 1
most_rows command = 0

-- the reply is the effect's, and the changes lead to rows that stand for the effect's room
pub record PlansEffect (t : ObjectRecords) (room : Room) (caller : SubjectModel)
    (command : CommandModel) (outcome : Outcome) : Type 0 where
  pub reply : reply_model outcome.reply ≡ (effect room caller command).reply
  pub of_tree : AllByRecursion IsOfObjects outcome.changes.items
  pub rules : ObjectRulesHoldAfterEach outcome.changes.items t
  pub leads : RepresentsRoom (apply_all_to_objects outcome.changes.items t) (effect room caller command).room
  pub numbers : KeepsNumbers t (apply_all_to_objects outcome.changes.items t) room caller command
  pub few : ChangesFewRows (most_rows command) t outcome.changes.items
  pub refusal : IsNotDone (reply_model outcome.reply) → outcome.changes.items ≡ []
  pub allowed : (IsNotDone (reply_model outcome.reply) → ⊥) → NeedsAllowed room caller command

-- and where a check refuses, the first that does
abbrev pub Plans : ObjectRecords → Room → SubjectModel → CommandModel → Result Outcome Stop → Type 0
Plans t room caller command result =
    OrStopped (first_refusal (checks room caller command)) (PlansEffect t room caller command) result
