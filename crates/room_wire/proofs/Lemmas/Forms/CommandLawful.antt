-- A command that a body asks is lawful, where its bytes are bytes.
use Rattle.room_wire.proofs.Common.{◌≡◌, ℕ, suc, Bool, true, false, List, [], ◌∷◌, get_or, cond, refl, sym, ap, subst}
use Rattle.room_wire.proofs.Common.{arith, Option, None, Some, codes, Fits, w8, IsTrue, option_map, option_and_then}
use Rattle.room_wire.proofs.Common.{AllByRecursion, option_zip, cond_some, same_Some, option_and_then_some, Data, Items}
use Rattle.room_wire.proofs.Common.{no_items, item, as_array, get, standard, decoded_of, EntryModel, names_its_kind}
use Rattle.room_wire.proofs.Common.{is_who, who_of, who_of_kind, Path, IsPath, CommandModel, AreBytes, IsWho, IsEntry}
use Rattle.room_wire.proofs.Common.{IsLawful, has_count, json_of, number_at, text_at, mask_from, mask_at, flags_from}
use Rattle.room_wire.proofs.Common.{allow_from, is_principal, principal_from, principal_at, who_from, entry_from}
use Rattle.room_wire.proofs.Common.{entry_in, all_among, all_at, path_from, path_at, list_flags_from, verb_from}
use Rattle.room_wire.proofs.Common.{of_path, of_bytes, has_parts, verb_command, command_in, keep_at, asked_in}
use Rattle.room_wire.proofs.Common.{command_of_body, bytes_in}
use Rattle.room_acl.specs.declared.who.Who.{Who}
use Rattle.room_acl.specs.Bits.{is_flags, is_list_flags, is_mask}
use Rattle.room_commands.specs.CommandModel as C
use Rattle.room_wire.specs.declared.forms.commands.PathVerb.{PathVerb}
use Rattle.room_wire.specs.declared.forms.commands.PathVerb.TheVariants as P
use Rattle.room_wire.specs.declared.forms.commands.BytesVerb.{BytesVerb}
use Rattle.room_wire.specs.declared.forms.commands.BytesVerb.TheVariants as B
use Rattle.room_wire.specs.declared.forms.commands.Verb.{Verb}
use Rattle.room_wire.specs.declared.forms.commands.Verb.TheVariants as V
use Rattle.room_wire.proofs.Lemmas.Forms.CommandPaths.{text_of_path}

pub fitting : (bytes : List ℕ) → ((i : ℕ) → Fits w8 (get_or bytes i 0)) → AreBytes bytes
fitting [] h = tt
fitting (b ∷ bytes) h = (let first = h 0 in omega (arith, first), fitting bytes (λ i. h (suc i)))

then_some : {A : Type 0} (b : Bool) (o : Option A) (y : A) → cond b o None ≡ Some y → o ≡ Some y
then_some true o y e = e
then_some false o y e = absurd cc

map_some : {A B Q : Type 0} (f : A → B) (o : Option A) (y : B)
    → option_map f o ≡ Some y → ((x : A) → o ≡ Some x → f x ≡ y → Q) → Q
map_some f None y e found = absurd cc
map_some f (Some x) y e found = found x refl (same_Some (f x) y e)

zip_parts : {A B : Type 0} (a : Option A) (b : Option B) (both : A × B)
    → option_zip a b ≡ Some both → (a ≡ Some both.0) × (b ≡ Some both.1)
zip_parts None b both e = absurd cc
zip_parts (Some x) None both e = absurd cc
zip_parts {A} {B} (Some x) (Some y) both e =
    (ap (option_map (λ (it : A × B). it.0)) e, ap (option_map (λ (it : A × B). it.1)) e)

-- ---- parts

-- what is taken only where it passes a test
tested : {A : Type 0} (test : A → Bool) (o : Option A) (y : A)
    → option_and_then (λ x. cond (test x) (Some x) None) o ≡ Some y → IsTrue (test y)
tested test o y e = option_and_then_some (λ x. cond (test x) (Some x) None) o y e (λ x is made.
    let parts = cond_some (test x) x y made in subst (λ z. IsTrue (test z)) parts.1 parts.0)

path_at_fact : (name : List ℕ) (d : Data) (path : Path) → path_at name d ≡ Some path → IsPath path
path_at_fact name d path e =
    option_and_then_some path_from (text_at name d) path e (λ text is made. (text_of_path text path made).0)

-- ---- entries

abbrev IsNamed : ℕ → Who → Type 0
IsNamed flags who = IsWho who × IsTrue (names_its_kind flags who)

who_fact : (flags : ℕ) (text : List ℕ) (who : Who) → who_from flags text ≡ Some who → IsNamed flags who
who_fact flags text who e =
    let parts = cond_some (is_who (who_of flags text)) (who_of flags text) who e in
    subst (IsNamed flags) parts.1 (parts.0, who_of_kind flags text)

entry_fact : (d : Data) (e : EntryModel) → entry_in d ≡ Some e → IsEntry e
entry_fact d e made =
    let flags = option_and_then flags_from (number_at (codes "flag") d) in
    let rest = option_zip (option_and_then allow_from (number_at (codes "type") d)) (text_at (codes "who") d) in
    let later = option_zip (mask_at (codes "mask") d) rest in
    option_and_then_some entry_from (option_zip flags later) e (then_some (has_count 4 d) _ e made) (λ it is of.
    let parts = zip_parts flags later it is in
    let more = zip_parts (mask_at (codes "mask") d) rest it.1 parts.1 in
    map_some (λ who. record { flags = it.0; mask = it.1.0; allow = it.1.1.0; who = who })
    (who_from it.0 it.1.1.1) e of (λ who named same.
    let fact = who_fact it.0 it.1.1.1 who named in
    let lawful : IsEntry (record { flags = it.0; mask = it.1.0; allow = it.1.1.0; who = who }) = record {
      flags = tested is_flags (number_at (codes "flag") d) it.0 parts.0;
      mask = tested is_mask (number_at (codes "mask") d) it.1.0 more.0;
      who = fact.0;
      kind = fact.1;
    } in
    subst IsEntry same lawful))

entries_fact : (ds : Items) (es : List EntryModel) → all_among entry_in ds ≡ Some es → AllByRecursion IsEntry es
entries_fact no_items es made = subst (AllByRecursion IsEntry) (same_Some [] es made) tt
entries_fact (item d ds) es made =
    map_some (λ (it : EntryModel × List EntryModel). it.0 ∷ it.1) (option_zip (entry_in d) (all_among entry_in ds))
    es made (λ it is same.
    let parts = zip_parts (entry_in d) (all_among entry_in ds) it is in
    subst (AllByRecursion IsEntry) same (entry_fact d it.0 parts.0, entries_fact ds it.1 parts.1))

entries_at_fact : (name : List ℕ) (d : Data) (es : List EntryModel)
    → all_at entry_in name d ≡ Some es → AllByRecursion IsEntry es
entries_at_fact name d es e =
    option_and_then_some (all_among entry_in) (option_and_then as_array (get name d)) es e
    (λ ds is made. entries_fact ds es made)

-- ---- commands

of_path_lawful : (verb : PathVerb) (path : Path) → IsPath path → IsLawful (of_path verb path)
of_path_lawful P.Stat path h = h
of_path_lawful verb path h = h

of_bytes_lawful : (verb : BytesVerb) (bytes : List ℕ) (path : Path)
    → AreBytes (bytes_in (of_bytes verb bytes path)) → IsPath path → IsLawful (of_bytes verb bytes path)
of_bytes_lawful B.Create bytes path fit h = (fit, h)
of_bytes_lawful verb bytes path fit h = (fit, h)

verb_fact : (verb : Verb) (d : Data) (c : CommandModel)
    → AreBytes (bytes_in c) → verb_command verb d ≡ Some c → IsLawful c
verb_fact (V.OfPath verb) d c fit made =
    map_some (of_path verb) (path_at (codes "path") d) c (then_some (has_parts 2 d) _ c made)
    (λ path is same. subst IsLawful same (of_path_lawful verb path (path_at_fact (codes "path") d path is)))
verb_fact (V.OfBytes verb) d c fit made =
    let bytes = option_and_then (decoded_of standard) (text_at (codes "data") d) in
    let path = path_at (codes "path") d in
    map_some (λ (it : List ℕ × Path). of_bytes verb it.0 it.1) (option_zip bytes path) c
    (then_some (has_parts 3 d) _ c made) (λ it is same.
    let parts = zip_parts bytes path it is in
    subst IsLawful same
    (of_bytes_lawful verb it.0 it.1 (subst (λ k. AreBytes (bytes_in k)) (sym same) fit)
    (path_at_fact (codes "path") d it.1 parts.1)))
verb_fact V.Rename d c fit made =
    let path = path_at (codes "path") d in
    let to = path_at (codes "to") d in
    map_some (λ (it : Path × Path). C.Rename it.0 it.1) (option_zip path to) c
    (then_some (has_parts 3 d) _ c made) (λ it is same.
    let parts = zip_parts path to it is in
    subst IsLawful same
    (path_at_fact (codes "path") d it.0 parts.0, path_at_fact (codes "to") d it.1 parts.1))
verb_fact V.SetList d c fit made =
    let flags = option_and_then list_flags_from (number_at (codes "aclflag") d) in
    let entries = all_at entry_in (codes "entries") d in
    let path = path_at (codes "path") d in
    map_some (λ (it : ℕ × (List EntryModel × Path)). C.SetList it.0 it.1.0 it.1.1)
    (option_zip flags (option_zip entries path)) c (then_some (has_parts 4 d) _ c made) (λ it is same.
    let parts = zip_parts flags (option_zip entries path) it is in
    let more = zip_parts entries path it.1 parts.1 in
    subst IsLawful same (
      tested is_list_flags (number_at (codes "aclflag") d) it.0 parts.0,
      entries_at_fact (codes "entries") d it.1.0 more.0,
      path_at_fact (codes "path") d it.1.1 more.1,
    ))
verb_fact V.Chown d c fit made =
    let group = principal_at (codes "group") d in
    let owner = principal_at (codes "owner") d in
    let path = path_at (codes "path") d in
    map_some (λ (it : List ℕ × (List ℕ × Path)). C.Chown it.0 it.1.0 it.1.1)
    (option_zip group (option_zip owner path)) c (then_some (has_parts 4 d) _ c made) (λ it is same.
    let parts = zip_parts group (option_zip owner path) it is in
    let more = zip_parts owner path it.1 parts.1 in
    subst IsLawful same (
      tested is_principal (text_at (codes "group") d) it.0 parts.0,
      tested is_principal (text_at (codes "owner") d) it.1.0 more.0,
      path_at_fact (codes "path") d it.1.1 more.1,
    ))
verb_fact V.Access d c fit made =
    let mask = mask_at (codes "mask") d in
    let path = path_at (codes "path") d in
    map_some (λ (it : ℕ × Path). C.Access it.0 it.1) (option_zip mask path) c
    (then_some (has_parts 3 d) _ c made) (λ it is same.
    let parts = zip_parts mask path it is in
    subst IsLawful same
    (tested is_mask (number_at (codes "mask") d) it.0 parts.0, path_at_fact (codes "path") d it.1 parts.1))

command_fact : (d : Data) (c : CommandModel) → AreBytes (bytes_in c) → command_in d ≡ Some c → IsLawful c
command_fact d c fit made = option_and_then_some (λ verb. verb_command verb d)
    (option_and_then verb_from (text_at (codes "cmd") d)) c made (λ verb is said. verb_fact verb d c fit said)

pub asked_is_lawful : (body : List ℕ) (asked : CommandModel × Bool)
    → AreBytes (bytes_in asked.0) → command_of_body body ≡ Some asked → IsLawful asked.0
asked_is_lawful body asked fit made = option_and_then_some asked_in (json_of body) asked made
    (λ d is said. command_fact d asked.0 fit (zip_parts (command_in d) (keep_at d) asked said).0)
