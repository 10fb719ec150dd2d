-- The text of a lawful command is that of a body that asks it.
use Rattle.room_wire.proofs.Common.{◌≡◌, ◌≤◌, ◌<◌, ◌^◌, ℕ, Bool, true, false, List, [], ◌∷◌, refl, sym, ap, ◌∙◌, arith}
use Rattle.room_wire.proofs.Common.{Option, Some, codes, IsUtf8, option_map, option_and_then, AllByRecursion}
use Rattle.room_wire.proofs.Common.{option_zip, same_Some, IsUtf8-append, IsUtf8-from_ascii, IsUtf8-nil, HasNumbers}
use Rattle.room_wire.proofs.Common.{ItemsHaveNumbers, depth, items_depth, Data, string, array, no_members, read}
use Rattle.room_wire.proofs.Common.{max_depth, of_json, of_items, outline, items_outline, compact_text, standard}
use Rattle.room_wire.proofs.Common.{encode_of, IsAscii-encode_of, EntryModel, type_of, principal_utf8, who_utf8, Path}
use Rattle.room_wire.proofs.Common.{IsFileName, IsPath, path_text, CommandModel, IsEntry, IsLawful, who_text, entry}
use Rattle.room_wire.proofs.Common.{entries, at, cmd, num, obj, path, bytes, members, command_data, command_text}
use Rattle.room_wire.proofs.Common.{of_path, command_in, keep_at, asked_in, command_of_body}
use Rattle.std.specs.List.{flat_map}
use Rattle.json.proofs.Printed.Decimals.{IsNumber-decimal}
use Rattle.json.proofs.Printed.Utf8.{are_ascii, IsUtf8-are_ascii}
use Rattle.room_commands.specs.CommandModel as C
use Rattle.room_wire.specs.declared.forms.commands.PathVerb.TheVariants as P
use Rattle.room_wire.proofs.Lemmas.Forms.Bodies.{json_some}
use Rattle.room_wire.proofs.Lemmas.Forms.CommandBytes.{bytes_back}
use Rattle.room_wire.proofs.Lemmas.Forms.CommandParts.{path_back, list_flags_back, list_flags_small, flags_small}
use Rattle.room_wire.proofs.Lemmas.Forms.CommandParts.{mask_small, mask_back}
use Rattle.room_records.proofs.PathParts.{name_parts, path_parts}
use Rattle.room_wire.proofs.Lemmas.Forms.CommandParts.{principal_back, entries_back}
use Rattle.room_wire.proofs.Lemmas.Forms.CommandTexts.{ReadsBack, text_reads, number_back, put_all, object_back}
use Rattle.room_wire.proofs.Lemmas.Forms.CommandTexts.{item_back}
use Rattle.room_wire.proofs.Lemmas.Forms.CommandUtf8.{HasUtf8, ItemsHaveUtf8, MembersHaveUtf8, one_then, text_is_utf8}
use Rattle.room_wire.proofs.Lemmas.Forms.CommandUtf8.{digits_are_utf8}

-- ---- the value is read as the command

-- a command of two parts, and one of three
abbrev of_two : {A B : Type 0} → (A → B → CommandModel) → Option A → Option B → Option CommandModel
of_two {A} {B} make a b = option_map (λ (it : A × B). make it.0 it.1) (option_zip a b)

abbrev of_three : {A B C : Type 0} → (A → B → C → CommandModel) → Option A → Option B → Option C → Option CommandModel
of_three {A} {B} {C} make a b c =
    option_map (λ (it : A × (B × C)). make it.0 it.1.0 it.1.1) (option_zip a (option_zip b c))

command_back : (c : CommandModel) → IsLawful c → command_in (command_data c) ≡ Some c
command_back (C.Stat p) h = ap (option_map (of_path P.Stat)) (path_back p h)
command_back (C.ListNames p) h = ap (option_map (of_path P.List)) (path_back p h)
command_back (C.Mkdir p) h = ap (option_map (of_path P.Mkdir)) (path_back p h)
command_back (C.Create b p) h = (λ i. of_two C.Create (bytes_back b h.0 i) (path_back p h.1 i))
command_back (C.Read p) h = ap (option_map (of_path P.Read)) (path_back p h)
command_back (C.Write b p) h = (λ i. of_two C.Write (bytes_back b h.0 i) (path_back p h.1 i))
command_back (C.Append b p) h = (λ i. of_two C.Append (bytes_back b h.0 i) (path_back p h.1 i))
command_back (C.Remove p) h = ap (option_map (of_path P.Remove)) (path_back p h)
command_back (C.Rename p to) h = (λ i. of_two C.Rename (path_back p h.0 i) (path_back to h.1 i))
command_back (C.GetList p) h = ap (option_map (of_path P.GetList)) (path_back p h)
command_back (C.SetList flags es p) h =
    (λ i. of_three C.SetList (list_flags_back flags h.0 i) (entries_back es h.1 i) (path_back p h.2 i))
command_back (C.Chown group owner p) h =
    (λ i. of_three C.Chown (principal_back group h.0 i) (principal_back owner h.1 i) (path_back p h.2 i))
command_back (C.Access mask p) h = (λ i. of_two C.Access (mask_back mask h.0 i) (path_back p h.1 i))

-- the text of a command says nothing of its reply, so it is kept
keep_back : (c : CommandModel) → keep_at (command_data c) ≡ Some true
keep_back (C.Stat p) = refl
keep_back c = refl

asked_back : (c : CommandModel) → IsLawful c → asked_in (command_data c) ≡ Some (c, true)
asked_back c h = (λ i. option_zip (command_back c h i) (keep_back c i))

-- ---- the text is read as the value

flags_fit : (e : EntryModel) → IsEntry e → e.flags < 2 ^ 64
flags_fit e h = let small = flags_small e.flags h.flags in omega (arith, small)

mask_fits : (e : EntryModel) → IsEntry e → e.mask < 2 ^ 64
mask_fits e h = let small = mask_small e.mask h.mask in omega (arith, small)

type_small : (b : Bool) → type_of b < 2 ^ 64
type_small true = omega arith
type_small false = omega arith

type_depth : (b : Bool) → depth (outline (num (type_of b))) ≡ 0
type_depth true = refl
type_depth false = refl

entry_read : (e : EntryModel) → IsEntry e → of_json (outline (entry e)) ≡ Some (entry e)
entry_read e h =
    object_back ((codes "flag", num e.flags) ∷ (codes "mask", num e.mask)
    ∷ (codes "type", num (type_of e.allow)) ∷ (codes "who", string (who_text e.who)) ∷ []) (
      number_back e.flags (flags_fit e h),
      (
        number_back e.mask (mask_fits e h),
        (number_back (type_of e.allow) (type_small e.allow), (refl, tt)),
      ),
    ) refl

entries_read : (es : List EntryModel) → AllByRecursion IsEntry es
    → of_items (items_outline (entries es)) ≡ Some (entries es)
entries_read [] h = refl
entries_read (e ∷ es) h = item_back (outline (entry e)) (items_outline (entries es))
    (entry e) (entries es) (entry_read e h.0) (entries_read es h.1)

entries_have_numbers : (es : List EntryModel) → AllByRecursion IsEntry es
    → ItemsHaveNumbers (items_outline (entries es))
entries_have_numbers [] h = tt
entries_have_numbers (e ∷ es) h = (
  (
    IsNumber-decimal e.flags (flags_fit e h.0),
    (IsNumber-decimal e.mask (mask_fits e h.0), (IsNumber-decimal (type_of e.allow) (type_small e.allow), (tt, tt))),
  ),
  entries_have_numbers es h.1,
)

entries_depth : (es : List EntryModel) → items_depth (items_outline (entries es)) ≤ 1
entries_depth [] = omega arith
entries_depth (e ∷ es) = let zero = type_depth e.allow in let rest = entries_depth es in omega (arith, zero, rest)

abbrev Reads : List (List ℕ × Data) → Type 0
Reads ms = read (compact_text (obj ms)) ≡ Some (obj ms)

-- of a value whose members stand in order
reads : (ms : List (List ℕ × Data)) → HasNumbers (outline (obj ms)) → depth (outline (obj ms)) ≤ max_depth
    → AllByRecursion ReadsBack ms → put_all ms no_members ≡ members ms → Reads ms
reads ms numbers shallow back order = text_reads (obj ms) numbers shallow (object_back ms back order)

path_reads : (name : List ℕ) (p : Path) → Reads (cmd name ∷ at p ∷ [])
path_reads name p = reads (cmd name ∷ at p ∷ []) (tt, (tt, tt)) (omega arith) (refl, (refl, tt)) refl

bytes_reads : (name b : List ℕ) (p : Path) → Reads (cmd name ∷ (codes "data", bytes b) ∷ at p ∷ [])
bytes_reads name b p = reads (cmd name ∷ (codes "data", bytes b) ∷ at p ∷ []) (tt, (tt, (tt, tt))) (omega arith)
    (refl, (refl, (refl, tt))) refl

command_reads : (c : CommandModel) → IsLawful c → read (command_text c) ≡ Some (command_data c)
command_reads (C.Stat p) h = path_reads (codes "STAT") p
command_reads (C.ListNames p) h = path_reads (codes "LIST") p
command_reads (C.Mkdir p) h = path_reads (codes "MKDIR") p
command_reads (C.Create b p) h = bytes_reads (codes "CREATE") b p
command_reads (C.Read p) h = path_reads (codes "READ") p
command_reads (C.Write b p) h = bytes_reads (codes "WRITE") b p
command_reads (C.Append b p) h = bytes_reads (codes "APPEND") b p
command_reads (C.Remove p) h = path_reads (codes "REMOVE") p
command_reads (C.Rename p to) h =
    reads (cmd (codes "RENAME") ∷ at p ∷ (codes "to", path to) ∷ []) (tt, (tt, (tt, tt))) (omega arith)
    (refl, (refl, (refl, tt))) refl
command_reads (C.GetList p) h = path_reads (codes "GETLIST") p
command_reads (C.SetList flags es p) h =
    let small : flags < 2 ^ 64 = let low = list_flags_small flags h.0 in omega (arith, low) in
    let deep = entries_depth es in
    let read_all : of_json (outline (array (entries es))) ≡ Some (array (entries es)) =
    ap (option_map array) (entries_read es h.1) in
    reads ((codes "aclflag", num flags) ∷ cmd (codes "SETLIST") ∷ (codes "entries", array (entries es)) ∷ at p ∷ [])
    (IsNumber-decimal flags small, (tt, (entries_have_numbers es h.1, (tt, tt)))) (omega (arith, deep))
    (number_back flags small, (refl, (read_all, (refl, tt)))) refl
command_reads (C.Chown group owner p) h =
    reads (cmd (codes "CHOWN") ∷ (codes "group", string group) ∷ (codes "owner", string owner) ∷ at p ∷ [])
    (tt, (tt, (tt, (tt, tt)))) (omega arith) (refl, (refl, (refl, (refl, tt)))) refl
command_reads (C.Access mask p) h =
    let small : mask < 2 ^ 64 = let low = mask_small mask h.0 in omega (arith, low) in
    reads (cmd (codes "ACCESS") ∷ (codes "mask", num mask) ∷ at p ∷ []) (tt, (IsNumber-decimal mask small, (tt, tt)))
    (omega arith) (refl, (number_back mask small, (refl, tt))) refl

-- ---- the text is UTF-8

names_utf8 : (path : Path) → AllByRecursion IsFileName path → IsUtf8 (flat_map (λ n. 47 ∷ n) path)
names_utf8 [] h = IsUtf8-nil
names_utf8 (name ∷ path) h =
    IsUtf8-append (47 ∷ name) _ (one_then 47 name (IsUtf8-are_ascii _ refl) (name_parts name h.0).text)
    (names_utf8 path h.1)

path_utf8 : (path : Path) → IsPath path → IsUtf8 (path_text path)
path_utf8 [] h = IsUtf8-are_ascii _ refl
path_utf8 (name ∷ path) h = names_utf8 (name ∷ path) (path_parts (name ∷ path) h).names

at_utf8 : (path : Path) → IsPath path → MembersHaveUtf8 (members (at path ∷ []))
at_utf8 path h = (IsUtf8-are_ascii (codes "path") refl, path_utf8 path h, tt)

bytes_utf8 : (b : List ℕ) → IsUtf8 (encode_of standard b)
bytes_utf8 b = IsUtf8-from_ascii _ (IsAscii-encode_of standard b)

entries_utf8 : (es : List EntryModel) → AllByRecursion IsEntry es → ItemsHaveUtf8 (entries es)
entries_utf8 [] h = tt
entries_utf8 (e ∷ es) h = (
  (
    IsUtf8-are_ascii (codes "flag") refl,
    digits_are_utf8 e.flags (flags_fit e h.0),
    (
      IsUtf8-are_ascii (codes "mask") refl,
      digits_are_utf8 e.mask (mask_fits e h.0),
      (
        IsUtf8-are_ascii (codes "type") refl,
        digits_are_utf8 (type_of e.allow) (type_small e.allow),
        (IsUtf8-are_ascii (codes "who") refl, who_utf8 e.who h.0.who, tt),
      ),
    ),
  ),
  entries_utf8 es h.1,
)

-- a name of a command, before other members
cmd_utf8 : (name : List ℕ) (rest : List (List ℕ × Data)) → are_ascii name ≡ true
    → MembersHaveUtf8 (members rest) → MembersHaveUtf8 (members (cmd name ∷ rest))
cmd_utf8 name rest ascii h = (IsUtf8-are_ascii (codes "cmd") refl, IsUtf8-are_ascii name ascii, h)

data_utf8 : (b : List ℕ) (p : Path) → IsPath p → MembersHaveUtf8 (members ((codes "data", bytes b) ∷ at p ∷ []))
data_utf8 b p h = (IsUtf8-are_ascii (codes "data") refl, bytes_utf8 b, at_utf8 p h)

command_utf8 : (c : CommandModel) → IsLawful c → HasUtf8 (command_data c)
command_utf8 (C.Stat p) h = cmd_utf8 (codes "STAT") (at p ∷ []) refl (at_utf8 p h)
command_utf8 (C.ListNames p) h = cmd_utf8 (codes "LIST") (at p ∷ []) refl (at_utf8 p h)
command_utf8 (C.Mkdir p) h = cmd_utf8 (codes "MKDIR") (at p ∷ []) refl (at_utf8 p h)
command_utf8 (C.Create b p) h = cmd_utf8 (codes "CREATE") ((codes "data", bytes b) ∷ at p ∷ []) refl (data_utf8 b p h.1)
command_utf8 (C.Read p) h = cmd_utf8 (codes "READ") (at p ∷ []) refl (at_utf8 p h)
command_utf8 (C.Write b p) h = cmd_utf8 (codes "WRITE") ((codes "data", bytes b) ∷ at p ∷ []) refl (data_utf8 b p h.1)
command_utf8 (C.Append b p) h = cmd_utf8 (codes "APPEND") ((codes "data", bytes b) ∷ at p ∷ []) refl (data_utf8 b p h.1)
command_utf8 (C.Remove p) h = cmd_utf8 (codes "REMOVE") (at p ∷ []) refl (at_utf8 p h)
command_utf8 (C.Rename p to) h =
    cmd_utf8 (codes "RENAME") (at p ∷ (codes "to", path to) ∷ []) refl
    (IsUtf8-are_ascii (codes "path") refl, path_utf8 p h.0, (IsUtf8-are_ascii (codes "to") refl, path_utf8 to h.1, tt))
command_utf8 (C.GetList p) h = cmd_utf8 (codes "GETLIST") (at p ∷ []) refl (at_utf8 p h)
command_utf8 (C.SetList flags es p) h =
    let small : flags < 2 ^ 64 = let low = list_flags_small flags h.0 in omega (arith, low) in (
      IsUtf8-are_ascii (codes "aclflag") refl,
      digits_are_utf8 flags small,
      cmd_utf8 (codes "SETLIST") ((codes "entries", array (entries es)) ∷ at p ∷ []) refl
          (IsUtf8-are_ascii (codes "entries") refl, entries_utf8 es h.1, at_utf8 p h.2),
    )
command_utf8 (C.Chown group owner p) h =
    cmd_utf8 (codes "CHOWN") ((codes "group", string group) ∷ (codes "owner", string owner) ∷ at p ∷ []) refl (
      IsUtf8-are_ascii (codes "group") refl,
      principal_utf8 group h.0,
      (IsUtf8-are_ascii (codes "owner") refl, principal_utf8 owner h.1, at_utf8 p h.2),
    )
command_utf8 (C.Access mask p) h =
    let small : mask < 2 ^ 64 = let low = mask_small mask h.0 in omega (arith, low) in
    cmd_utf8 (codes "ACCESS") ((codes "mask", num mask) ∷ at p ∷ []) refl
    (IsUtf8-are_ascii (codes "mask") refl, digits_are_utf8 mask small, at_utf8 p h.1)

-- ---- both together

pub text_back : (c : CommandModel) → IsLawful c → command_of_body (command_text c) ≡ Some (c, true)
text_back c h =
    let body = json_some (command_text c) (command_data c)
    (text_is_utf8 (command_data c) (command_utf8 c h)) (command_reads c h) in
    ap (option_and_then asked_in) (sym body) ∙ asked_back c h

pub one_command : (c k : CommandModel) → IsLawful c → IsLawful k → command_text c ≡ command_text k → c ≡ k
one_command c k h g same =
    ap (λ (a : CommandModel × Bool). a.0)
    (same_Some (c, true) (k, true) (sym (text_back c h) ∙ ap command_of_body same ∙ text_back k g))
