-- Readers of the members of JSON values: numbers, texts, principals, masks, flags, kinds and entries.
use Rattle.std.specs.Prelude.{ℕ, ◌+◌, Bool, true, false, ◌==◌, List, [], ◌∷◌, Option, None, Some}
use Rattle.std.specs.Prelude.{if◌then◌else◌, option_and_then, option_map, codes, bytes_eq}
use Rattle.std.specs.Option.{option_map_or, option_zip}
use Rattle.std.specs.Str.{is_utf8}
use Rattle.serde_json.specs.Data.{Data, Items, Members, no_items, item, no_members, member}
use Rattle.serde_json.specs.Find.{get, as_number, as_u64, as_str, as_array, as_object}
use Rattle.serde_json.specs.Read.{read}
use Rattle.room_acl.specs.declared.subject.Kind.{Kind}
use Rattle.room_acl.specs.declared.subject.Kind.TheVariants.{File, Folder}
use Rattle.room_acl.specs.Bits.{is_mask, is_flags}
pub use Rattle.room_acl.specs.Principals.{is_principal, principal_from}
use Rattle.room_acl.specs.Entries.{EntryModel, type_of}
pub use Rattle.room_acl.specs.Entries.{who_from}

-- the JSON value of a body: it is UTF-8, and one value
abbrev pub json_of : List ℕ → Option Data
json_of body = if is_utf8 body then read body else None

abbrev pub count : Members → ℕ
count no_members = 0
count (member name value members) = count members + 1

-- an object with so many members: with each listed one there, exactly those
abbrev pub has_count : ℕ → Data → Bool
has_count n d = option_map_or (λ members. count members == n) (as_object d) false

abbrev pub number_at : List ℕ → Data → Option ℕ
number_at name d = option_and_then as_u64 (option_and_then as_number (get name d))

abbrev pub text_at : List ℕ → Data → Option (List ℕ)
text_at name d = option_and_then as_str (get name d)

abbrev pub mask_from : ℕ → Option ℕ
mask_from n = if is_mask n then Some n else None

abbrev pub flags_from : ℕ → Option ℕ
flags_from n = if is_flags n then Some n else None

abbrev pub mask_at : List ℕ → Data → Option ℕ
mask_at name d = option_and_then mask_from (number_at name d)

abbrev pub principal_at : List ℕ → Data → Option (List ℕ)
principal_at name d = option_and_then principal_from (text_at name d)

abbrev pub kind_from : List ℕ → Option Kind
kind_from text = if bytes_eq text (codes "file") then Some File
    else (if bytes_eq text (codes "folder") then Some Folder else None)

-- whether an entry of this type allows, where it is a type
abbrev pub allow_from : ℕ → Option Bool
allow_from n = if n == type_of true then Some true else (if n == type_of false then Some false else None)

-- the entry of these flags and this mask, which allows or not, and of the text of whom it is for
abbrev pub entry_from : ℕ × (ℕ × (Bool × List ℕ)) → Option EntryModel
entry_from (flags, (mask, (allow, text))) =
    option_map (λ who. record { allow = allow; flags = flags; mask = mask; who = who }) (who_from flags text)

abbrev pub entry_in : Data → Option EntryModel
entry_in d =
    if has_count 4 d then option_and_then entry_from
    (option_zip (option_and_then flags_from (number_at (codes "flag") d)) (option_zip (mask_at (codes "mask") d)
    (option_zip (option_and_then allow_from (number_at (codes "type") d)) (text_at (codes "who") d))))
    else None

abbrev pub principal_in : Data → Option (List ℕ)
principal_in d = option_and_then principal_from (as_str d)

-- what these values are read as, if each of them is read
abbrev pub all_among : {A : Type 0} → (Data → Option A) → Items → Option (List A)
all_among read no_items = Some []
all_among read (item d ds) = option_map (λ (x, xs). x ∷ xs) (option_zip (read d) (all_among read ds))

-- and those of an array among the members
abbrev pub all_at : {A : Type 0} → (Data → Option A) → List ℕ → Data → Option (List A)
all_at read name d = option_and_then (all_among read) (option_and_then as_array (get name d))
