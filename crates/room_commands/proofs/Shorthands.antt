-- Names, for proofs alone, of parts of definitions: most are what a definition of `specs/` says of an object that is
-- found, or not, or of whether a right is refused.
use Rattle.room_commands.proofs.Common.{ℕ, ◌||◌, List, [], map, Option, None, Some, is_none, Result, Ok, Err}
use Rattle.room_commands.proofs.Common.{if◌then◌else◌, Kind, Denied, delete_object, SubjectModel, EntryModel, decision}
use Rattle.room_commands.proofs.Common.{handed_down, Path, Object, Room, list_of, standing_of, Refusal, ReplyModel}
use Rattle.room_commands.proofs.Common.{NoEnt, no_object, denied_at, refusal_without_place, CommandModel, Sight, Own}
use Rattle.room_commands.proofs.Common.{replies_among}
use Rattle.std.specs.Option.{option_map, option_map_or, unwrap_or}
use Rattle.std.specs.Result.{result_unwrap_or, result_map_both}

abbrev pub or_no_object : Option Object → Object
or_no_object o = unwrap_or o no_object

abbrev pub bytes_of : Option Object → List ℕ
bytes_of o = (or_no_object o).bytes

abbrev pub kind_of : Option Object → Kind
kind_of o = (or_no_object o).kind

abbrev pub handed_by : Option Object → List EntryModel → List EntryModel
handed_by found above = option_map_or (λ (o : Object). handed_down above o.kind) found []

-- a right by these entries
abbrev pub right_by : SubjectModel → Path → ℕ → List EntryModel → Option Object → Option Refusal
right_by caller path wanted entries found =
    option_map_or (λ (o : Object). denied_at path (decision entries caller (standing_of o) wanted))
    found (Some (refusal_without_place NoEnt))

abbrev pub right_on : Room → SubjectModel → Path → ℕ → Option Object → Option Refusal
right_on room caller path wanted found = right_by caller path wanted (list_of room path) found

abbrev pub removal_refusal : Path → Option Refusal → Option Refusal → Option Refusal
removal_refusal path own by_folder =
    if is_none own || is_none by_folder then None else denied_at path (Denied delete_object)

abbrev pub if_reached : Option Refusal → Option Sight → Result (Option Sight) Refusal
if_reached way there = option_map_or Err way (Ok there)

-- what is there at the end of a way that passes
abbrev pub there_seen : Result (Option Sight) Refusal → Option Sight
there_seen seen = result_unwrap_or seen None

abbrev pub seen_less : (Sight → Sight) → Result (Option Sight) Refusal → Result (Option Sight) Refusal
seen_less less seen = result_map_both (option_map less) (λ fault. fault) seen

-- an object with other bytes
abbrev pub object_with : (ℕ → ℕ) → Object → Object
object_with new o = record o { bytes = map new o.bytes }

-- the answers to commands of one caller, one after another
abbrev pub replies : Room → SubjectModel → List CommandModel → List ReplyModel
replies room caller commands = replies_among room caller (map Own commands)

-- both of two facts: a chain of many reads as a list, where pairs in pairs would step in
abbrev pub also : {A B : Type 0} → A → B → A × B
also a b = (a, b)
