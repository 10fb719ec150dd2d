-- Commands out of bodies: the member cmd names the command, and the other members are its parts.
use Rattle.std.specs.Prelude.{◌≡◌, ℕ, ◌+◌, ◌==◌, ◌&&◌, Bool, true, List, [], drop}
use Rattle.std.specs.Prelude.{Option, None, Some}
use Rattle.std.specs.Prelude.{Result, Ok, Err, if◌then◌else◌, option_and_then, option_map, codes, bytes_eq}
use Rattle.std.specs.List.{slice_split}
use Rattle.std.specs.Option.{option_len, option_map_or, option_zip}
use Rattle.serde_json.specs.Data.{Data}
use Rattle.serde_json.specs.Find.{get, as_bool}
use Rattle.base64.specs.Engines.{standard}
use Rattle.base64.specs.GeneralPurpose.{decoded_of}
use Rattle.room_acl.specs.Bits.{is_list_flags}
use Rattle.room_records.specs.Names.{Path, is_path, path_text}
use Rattle.room_commands.specs.declared.command.Command.{Command}
use Rattle.room_commands.specs.CommandModel.{CommandModel, command_model}
use Rattle.room_commands.specs.CommandModel as C
use Rattle.room_wire.specs.declared.forms.commands.PathVerb.{PathVerb}
use Rattle.room_wire.specs.declared.forms.commands.PathVerb.TheVariants as P
use Rattle.room_wire.specs.declared.forms.commands.BytesVerb.{BytesVerb}
use Rattle.room_wire.specs.declared.forms.commands.BytesVerb.TheVariants as B
use Rattle.room_wire.specs.declared.forms.commands.Verb.{Verb}
use Rattle.room_wire.specs.declared.forms.commands.Verb.TheVariants as V
use Rattle.room_wire.specs.declared.fault.WireFault.{WireFault}
use Rattle.room_wire.specs.declared.fault.WireFault.TheVariants.{BadRoute, UnknownUser, BadRequest, Memory}
use Rattle.room_wire.specs.Forms.Reading.{has_count, json_of, number_at, text_at, entry_in, all_at, principal_at}
use Rattle.room_wire.specs.Forms.Reading.{mask_at}

-- what stands after the slashes of a text; the root has no names
abbrev pub names_in : List ℕ → Path
names_in text = if bytes_eq text (codes "/") then [] else drop 1 (slice_split (λ b. b == 47) text)

-- the path of this text, where it is a path's
abbrev pub path_from : List ℕ → Option Path
path_from text = if is_path (names_in text) && bytes_eq (path_text (names_in text)) text
    then Some (names_in text) else None

abbrev pub path_at : List ℕ → Data → Option Path
path_at name d = option_and_then path_from (text_at name d)

abbrev pub list_flags_from : ℕ → Option ℕ
list_flags_from n = if is_list_flags n then Some n else None

abbrev pub verb_from : List ℕ → Option Verb
verb_from text =
    if bytes_eq text (codes "STAT") then Some (V.OfPath P.Stat)
    else (if bytes_eq text (codes "LIST") then Some (V.OfPath P.List)
    else (if bytes_eq text (codes "MKDIR") then Some (V.OfPath P.Mkdir)
    else (if bytes_eq text (codes "CREATE") then Some (V.OfBytes B.Create)
    else (if bytes_eq text (codes "READ") then Some (V.OfPath P.Read)
    else (if bytes_eq text (codes "WRITE") then Some (V.OfBytes B.Write)
    else (if bytes_eq text (codes "APPEND") then Some (V.OfBytes B.Append)
    else (if bytes_eq text (codes "REMOVE") then Some (V.OfPath P.Remove)
    else (if bytes_eq text (codes "RENAME") then Some V.Rename
    else (if bytes_eq text (codes "GETLIST") then Some (V.OfPath P.GetList)
    else (if bytes_eq text (codes "SETLIST") then Some V.SetList
    else (if bytes_eq text (codes "CHOWN") then Some V.Chown
    else (if bytes_eq text (codes "ACCESS") then Some V.Access
    else None))))))))))))

abbrev pub of_path : PathVerb → Path → CommandModel
of_path P.Stat path = C.Stat path
of_path P.List path = C.ListNames path
of_path P.Mkdir path = C.Mkdir path
of_path P.Read path = C.Read path
of_path P.Remove path = C.Remove path
of_path P.GetList path = C.GetList path

abbrev pub of_bytes : BytesVerb → List ℕ → Path → CommandModel
of_bytes B.Create bytes path = C.Create bytes path
of_bytes B.Write bytes path = C.Write bytes path
of_bytes B.Append bytes path = C.Append bytes path

-- an object with so many members, keep left out
abbrev pub has_parts : ℕ → Data → Bool
has_parts n d = has_count (n + option_len (get (codes "keep") d)) d

-- the command's members, exactly: cmd, and these, and beside them keep or not. Bytes are in standard base64 with
-- padding (RFC 4648, section 4)
abbrev pub verb_command : Verb → Data → Option CommandModel
verb_command (V.OfPath verb) d = if has_parts 2 d then option_map (of_path verb) (path_at (codes "path") d) else None
verb_command (V.OfBytes verb) d =
    if has_parts 3 d then option_map (λ (bytes, path). of_bytes verb bytes path)
    (option_zip (option_and_then (decoded_of standard) (text_at (codes "data") d)) (path_at (codes "path") d))
    else None
verb_command V.Rename d =
    if has_parts 3 d then option_map (λ (path, to). C.Rename path to)
    (option_zip (path_at (codes "path") d) (path_at (codes "to") d))
    else None
verb_command V.SetList d =
    if has_parts 4 d then option_map (λ (flags, (entries, path)). C.SetList flags entries path)
    (option_zip (option_and_then list_flags_from (number_at (codes "aclflag") d))
    (option_zip (all_at entry_in (codes "entries") d) (path_at (codes "path") d)))
    else None
verb_command V.Chown d =
    if has_parts 4 d then option_map (λ (group, (owner, path)). C.Chown group owner path)
    (option_zip (principal_at (codes "group") d)
    (option_zip (principal_at (codes "owner") d) (path_at (codes "path") d)))
    else None
verb_command V.Access d =
    if has_parts 3 d then option_map (λ (mask, path). C.Access mask path)
    (option_zip (mask_at (codes "mask") d) (path_at (codes "path") d))
    else None

abbrev pub command_in : Data → Option CommandModel
command_in d = option_and_then (λ verb. verb_command verb d) (option_and_then verb_from (text_at (codes "cmd") d))

-- whether the reply is kept: as the member keep says, and it is where that is absent
abbrev pub keep_at : Data → Option Bool
keep_at d = option_map_or as_bool (get (codes "keep") d) (Some true)

abbrev pub asked_in : Data → Option (CommandModel × Bool)
asked_in d = option_zip (command_in d) (keep_at d)

-- the command of a body, and whether its reply is kept
abbrev pub command_of_body : List ℕ → Option (CommandModel × Bool)
command_of_body body = option_and_then asked_in (json_of body)

-- the bytes that a command has
abbrev pub bytes_in : CommandModel → List ℕ
bytes_in (C.Stat path) = []
bytes_in (C.ListNames path) = []
bytes_in (C.Mkdir path) = []
bytes_in (C.Create bytes path) = bytes
bytes_in (C.Read path) = []
bytes_in (C.Write bytes path) = bytes
bytes_in (C.Append bytes path) = bytes
bytes_in (C.Remove path) = []
bytes_in (C.Rename path to) = []
bytes_in (C.GetList path) = []
bytes_in (C.SetList aclflag entries path) = []
bytes_in (C.Chown group owner path) = []
bytes_in (C.Access mask path) = []

-- the command and whether its reply is kept, as contracts see them
abbrev pub asked_model : Command × Bool → CommandModel × Bool
asked_model asked = (command_model asked.0, asked.1)

-- the result is what is asked, unless memory was refused
abbrev pub ReadsCommand : Option (CommandModel × Bool) → Result (Command × Bool) WireFault → Type 0
ReadsCommand wanted (Ok asked) = wanted ≡ Some (asked_model asked)
ReadsCommand wanted (Err BadRequest) = wanted ≡ None
ReadsCommand wanted (Err Memory) = Unit {0}
ReadsCommand wanted (Err BadRoute) = ⊥
ReadsCommand wanted (Err UnknownUser) = ⊥
