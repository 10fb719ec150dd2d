-- The texts of commands and replies: compact JSON, with members in byte order of their names.
use Rattle.std.specs.Prelude.{ℕ, List, [], ◌∷◌, map, Option, None, Some, codes}
use Rattle.serde_json.specs.Data.{Data, Items, Members, number, string, array, object, no_items, item}
use Rattle.serde_json.specs.Data.{no_members, member, unsigned}
use Rattle.serde_json.specs.View.{items_of}
use Rattle.serde_json.specs.Written.{compact_text}
use Rattle.base64.specs.Engines.{standard}
use Rattle.base64.specs.GeneralPurpose.{encode_of}
use Rattle.room_acl.specs.declared.subject.Kind.{Kind}
use Rattle.room_acl.specs.declared.subject.Kind.TheVariants.{File, Folder}
use Rattle.room_acl.specs.Entries.{EntryModel, type_of}
pub use Rattle.room_acl.specs.Entries.{who_text}
use Rattle.room_records.specs.Names.{Name, Path, path_text}
use Rattle.room_commands.specs.declared.reply.RefusalCode.{RefusalCode}
use Rattle.room_commands.specs.declared.reply.RefusalCode.TheVariants as F
use Rattle.room_commands.specs.CommandModel.{CommandModel}
use Rattle.room_commands.specs.CommandModel as C
use Rattle.room_commands.specs.ReplyModel.{ReplyModel}
use Rattle.room_commands.specs.ReplyModel as T

abbrev pub num : ℕ → Data
num n = number (unsigned n)

abbrev pub path : Path → Data
path p = string (path_text p)

abbrev pub bytes : List ℕ → Data
bytes b = string (encode_of standard b)

abbrev pub kind : Kind → Data
kind File = string (codes "file")
kind Folder = string (codes "folder")

-- members in byte order of their names
abbrev pub members : List (List ℕ × Data) → Members
members [] = no_members
members (m ∷ ms) = member m.0 m.1 (members ms)

abbrev pub obj : List (List ℕ × Data) → Data
obj ms = object (members ms)

abbrev pub entry : EntryModel → Data
entry e = obj ((codes "flag", num e.flags) ∷ (codes "mask", num e.mask)
    ∷ (codes "type", num (type_of e.allow)) ∷ (codes "who", string (who_text e.who)) ∷ [])

abbrev pub entries : List EntryModel → Items
entries es = items_of (map entry es)

abbrev pub named_child : Name × Kind → Data
named_child n = array (item (string n.0) (item (kind n.1) no_items))

abbrev pub named : List (Name × Kind) → Items
named ns = items_of (map named_child ns)

abbrev pub cmd : List ℕ → List ℕ × Data
cmd name = (codes "cmd", string name)

abbrev pub at : Path → List ℕ × Data
at p = (codes "path", path p)

abbrev pub command_data : CommandModel → Data
command_data (C.Stat p) = obj (cmd (codes "STAT") ∷ at p ∷ [])
command_data (C.ListNames p) = obj (cmd (codes "LIST") ∷ at p ∷ [])
command_data (C.Mkdir p) = obj (cmd (codes "MKDIR") ∷ at p ∷ [])
command_data (C.Create b p) = obj (cmd (codes "CREATE") ∷ (codes "data", bytes b) ∷ at p ∷ [])
command_data (C.Read p) = obj (cmd (codes "READ") ∷ at p ∷ [])
command_data (C.Write b p) = obj (cmd (codes "WRITE") ∷ (codes "data", bytes b) ∷ at p ∷ [])
command_data (C.Append b p) = obj (cmd (codes "APPEND") ∷ (codes "data", bytes b) ∷ at p ∷ [])
command_data (C.Remove p) = obj (cmd (codes "REMOVE") ∷ at p ∷ [])
command_data (C.Rename p to) = obj (cmd (codes "RENAME") ∷ at p ∷ (codes "to", path to) ∷ [])
command_data (C.GetList p) = obj (cmd (codes "GETLIST") ∷ at p ∷ [])
command_data (C.SetList flags es p) =
    obj ((codes "aclflag", num flags) ∷ cmd (codes "SETLIST") ∷ (codes "entries", array (entries es)) ∷ at p ∷ [])
command_data (C.Chown group owner p) =
    obj (cmd (codes "CHOWN") ∷ (codes "group", string group) ∷ (codes "owner", string owner) ∷ at p ∷ [])
command_data (C.Access mask p) = obj (cmd (codes "ACCESS") ∷ (codes "mask", num mask) ∷ at p ∷ [])

abbrev pub command_text : CommandModel → List ℕ
command_text c = compact_text (command_data c)

-- the number of a refusal, and its name
abbrev pub refusal_of : RefusalCode → ℕ × List ℕ
refusal_of F.NoEnt = (1, codes "NOENT")
refusal_of F.NotDir = (2, codes "NOTDIR")
refusal_of F.IsDir = (3, codes "ISDIR")
refusal_of F.Exist = (4, codes "EXIST")
refusal_of F.Access = (5, codes "ACCESS")
refusal_of F.NotEmpty = (6, codes "NOTEMPTY")
refusal_of F.Inval = (7, codes "INVAL")
refusal_of F.AttrNotSupp = (8, codes "ATTRNOTSUPP")
refusal_of F.FBig = (9, codes "FBIG")
refusal_of F.TooDeep = (10, codes "TOO_DEEP")
refusal_of F.FolderFull = (11, codes "FOLDER_FULL")
refusal_of F.RoomFull = (12, codes "ROOM_FULL")

abbrev pub refusal_data : RefusalCode → Option (Path × ℕ) → Data
refusal_data f None = obj ((codes "code", num (refusal_of f).0) ∷ (codes "error", string (refusal_of f).1) ∷ [])
refusal_data f (Some place) =
    obj ((codes "bit", num place.1) ∷ (codes "code", num (refusal_of f).0)
    ∷ (codes "error", string (refusal_of f).1) ∷ at place.0 ∷ [])

abbrev pub ok : List ℕ × Data
ok = (codes "code", num 0)

abbrev pub reply_data : ReplyModel → Data
reply_data T.Done = obj (ok ∷ [])
reply_data (T.Opened slots) = obj (ok ∷ (codes "slots", num slots) ∷ [])
reply_data (T.About f) =
    obj ((codes "aclflag", num f.aclflag) ∷ ok ∷ (codes "group", string f.group) ∷ (codes "kind", kind f.kind)
    ∷ (codes "owner", string f.owner) ∷ (codes "size", num f.size) ∷ [])
reply_data (T.Names ns) = obj (ok ∷ (codes "names", array (named ns)) ∷ [])
reply_data (T.Size n) = obj (ok ∷ (codes "size", num n) ∷ [])
reply_data (T.Bytes b) = obj (ok ∷ (codes "data", bytes b) ∷ [])
reply_data (T.Entries flags es) = obj ((codes "aclflag", num flags) ∷ ok ∷ (codes "entries", array (entries es)) ∷ [])
reply_data (T.Allowed mask) = obj ((codes "allowed", num mask) ∷ ok ∷ [])
reply_data (T.NotDone r) = refusal_data r.code r.place

abbrev pub reply_text : ReplyModel → List ℕ
reply_text t = compact_text (reply_data t)
