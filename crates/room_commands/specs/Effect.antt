-- The effect of a command: a room and a reply (our own rule).
use Rattle.std.specs.Prelude.{ℕ, ◌+◌, ◌-◌, not, List, [], ◌∷◌, ◌++◌, map, length, drop, Option, None, Some}
use Rattle.std.specs.Prelude.{if◌then◌else◌}
use Rattle.std.specs.List.{filter}
use Rattle.room_acl.specs.declared.subject.Kind.{Kind}
use Rattle.room_acl.specs.declared.subject.Kind.TheVariants.{File, Folder}
use Rattle.room_acl.specs.Bits.{auto_inherit_flag}
use Rattle.room_acl.specs.SubjectModel.{SubjectModel}
use Rattle.room_acl.specs.Access.{allowed_of}
use Rattle.room_records.specs.Names.{Path, path_eq}
use Rattle.room_commands.specs.CommandModel.{CommandModel}
use Rattle.room_commands.specs.CommandModel as C
use Rattle.room_records.specs.Room.{Object, Room, list_of, standing_of, parent_of, children}
use Rattle.room_commands.specs.ReplyModel.{ReplyModel, Done, About, Names, Size, Bytes, Entries, Allowed, NotDone}
use Rattle.room_commands.specs.ReplyModel.{Refusal, Attributes}
use Rattle.room_commands.specs.SetList.{own_entries_of_setlist}
use Rattle.room_commands.specs.Checks.{first_refusal, checks, object_or_default, bytes_at, is_at_or_below}

pub record Effect : Type 0 where
  pub room : Room
  pub reply : ReplyModel

-- a new object follows its folder, has no own entries, and is the caller's, with the folder's group
abbrev pub new_object : Room → SubjectModel → Path → Kind → List ℕ → Object
new_object room caller path kind data_bytes = record {
  kind = kind;
  owner = caller.name;
  group = (object_or_default room (parent_of path)).group;
  aclflag = auto_inherit_flag;
  own = [];
  bytes = data_bytes;
}

abbrev pub with_new : Room → Path → Object → Room
with_new room path o = record { objects = (path, o) ∷ room.objects; left = room.left - 1 }

abbrev pub with_object : Room → Path → (Object → Object) → Room
with_object room path change = record room {
  objects = map (λ (e : Path × Object). if path_eq path e.0 then (e.0, change e.1) else e) room.objects;
}

-- a room without the object at a path. `left` stays: a number is never used again
abbrev pub without : Room → Path → Room
without room path = record room { objects = filter (λ (e : Path × Object). not (path_eq path e.0)) room.objects }

-- a path at or below `path` has that front replaced by `to`; another stays
abbrev pub moved : Path → Path → Path → Path
moved path to other = if is_at_or_below other path then to ++ drop (length path) other else other

-- a room with a subtree moved: each object keeps all that is its own
abbrev pub renamed : Room → Path → Path → Room
renamed room path to = record room { objects = map (λ (e : Path × Object). (moved path to e.0, e.1)) room.objects }

-- what a command leaves where no check fails
abbrev pub changed : Room → SubjectModel → CommandModel → Room
changed room caller (C.Mkdir path) = with_new room path (new_object room caller path Folder [])
changed room caller (C.Create bytes path) = with_new room path (new_object room caller path File bytes)
changed room caller (C.Write bytes path) = with_object room path (λ o. record o { bytes = bytes })
changed room caller (C.Append bytes path) = with_object room path (λ o. record o { bytes = o.bytes ++ bytes })
changed room caller (C.Remove path) = without room path
changed room caller (C.Rename path to) = renamed room path to
changed room caller (C.SetList aclflag entries path) =
    with_object room path (λ o. record o { aclflag = aclflag; own = own_entries_of_setlist path aclflag entries })
changed room caller (C.Chown group owner path) = with_object room path (λ o. record o { owner = owner; group = group })
changed room caller command = room

abbrev pub size_of : Room → Path → Kind → ℕ
size_of room path File = length (bytes_at room path)
size_of room path Folder = length (children room path)

abbrev pub attributes_of : Room → Path → Object → Attributes
attributes_of room path o =
    record { aclflag = o.aclflag; group = o.group; kind = o.kind; owner = o.owner; size = size_of room path o.kind }

-- what it replies where no check fails
abbrev pub reply : Room → SubjectModel → CommandModel → ReplyModel
reply room caller (C.Stat path) = About (attributes_of room path (object_or_default room path))
reply room caller (C.ListNames path) = Names (children room path)
reply room caller (C.Create bytes path) = Size (length bytes)
reply room caller (C.Read path) = Bytes (bytes_at room path)
reply room caller (C.Write bytes path) = Size (length bytes)
reply room caller (C.Append bytes path) = Size (length (bytes_at room path) + length bytes)
reply room caller (C.GetList path) = Entries (object_or_default room path).aclflag (list_of room path)
reply room caller (C.Access mask path) =
    Allowed (allowed_of (list_of room path) caller (standing_of (object_or_default room path)) mask)
reply room caller command = Done

abbrev pub effect_by : Room → SubjectModel → CommandModel → Option Refusal → Effect
effect_by room caller command (Some refusal) = record { room = room; reply = NotDone refusal }
effect_by room caller command None = record { room = changed room caller command; reply = reply room caller command }

-- the first check that fails gives the reply, and the room stays
abbrev pub effect : Room → SubjectModel → CommandModel → Effect
effect room caller command = effect_by room caller command (first_refusal (checks room caller command))
