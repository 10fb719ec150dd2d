-- Objects that were written token by token, and the lists in them.
use Rattle.room_wire.proofs.Common.{◌≡◌, ◌+◌, ◌<◌, ◌≤◌, ℕ, List, [], ◌∷◌, ◌++◌, length, take, get_or, refl, sym, ap}
use Rattle.room_wire.proofs.Common.{◌∙◌, append_assoc, append-nil, codes, decimal, flat_map, Result, Ok, Err, IfOk}
use Rattle.room_wire.proofs.Common.{take_more, take_all, IfOk-weaker, Token, begin_object, end_object, begin_array}
use Rattle.room_wire.proofs.Common.{end_array, key, print, json_tokens, items_tokens, Data, outline, items_outline}
use Rattle.room_wire.proofs.Common.{compact_text, EntryModel, Name, Path, path_text, entry, entries, named_child, named}
use Rattle.room_wire.proofs.Common.{command_data}
use Rattle.std.proofs.lemmas.Grind.{flat_map-append}
use Rattle.json.specs.Token.{string, number}
use Rattle.json.specs.Written.{Written}
use Rattle.serde_json.proofs.Texts.{print-outline}
use Rattle.room_acl.specs.declared.subject.Kind.{Kind}
use Rattle.room_commands.specs.CommandModel as C
use Rattle.room_wire.specs.Forms.Writing.{Adds}

-- what was written into an empty buffer, and then these tokens
infixl 10 ◌then◌
pub ◌then◌ : {E : Type 0} {u : Unit {0}} {old new : Written} {ts us : List Token}
    → (old.before ≡ []) × (old.tokens ≡ us) → Adds {E = E} (Ok u) old new ts
    → (new.before ≡ []) × (new.tokens ≡ us ++ ts)
◌then◌ {ts = ts} so add = (add.before ∙ so.0, add.written ∙ ap (λ us. us ++ ts) so.1)

-- and the text of the object whose tokens they are
pub text_of : {T E : Type 0} (d : Data) (r : Result T E) (items : T → List ℕ) {before : List ℕ} {ts us : List Token}
    → (before ≡ []) × (ts ≡ us) → us ++ end_object ∷ [] ≡ json_tokens (outline d)
    → IfOk r (λ text. items text ≡ before ++ print (ts ++ end_object ∷ []))
    → IfOk r (λ text. items text ≡ compact_text d)
text_of d r items so same written = IfOk-weaker r _ _
    (λ _ is. is ∙ (λ i. so.0 i ++ print (so.1 i ++ end_object ∷ [])) ∙ ap print same ∙ print-outline d) written

-- ---- items, one after another

abbrev pub entry_tokens : EntryModel → List Token
entry_tokens e = json_tokens (outline (entry e))

abbrev pub name_tokens : Name × Kind → List Token
name_tokens n = json_tokens (outline (named_child n))

pub entries_tokens : (es : List EntryModel)
    → flat_map entry_tokens es ++ end_array ∷ [] ≡ items_tokens (items_outline (entries es))
entries_tokens [] = refl
entries_tokens (e ∷ es) =
    append_assoc (entry_tokens e) (flat_map entry_tokens es) (end_array ∷ [])
    ∙ ap (λ ts. entry_tokens e ++ ts) (entries_tokens es)

pub names_tokens : (ns : List (Name × Kind))
    → flat_map name_tokens ns ++ end_array ∷ [] ≡ items_tokens (items_outline (named ns))
names_tokens [] = refl
names_tokens (n ∷ ns) =
    append_assoc (name_tokens n) (flat_map name_tokens ns) (end_array ∷ [])
    ∙ ap (λ ts. name_tokens n ++ ts) (names_tokens ns)

-- the end of the list
pub items_ended : {X : Type 0} (f : X → List Token) (xs : List X) (i : ℕ) (old front now new : List Token)
    → length xs ≤ i → now ≡ old ++ (front ++ flat_map f (take i xs)) → new ≡ now ++ end_array ∷ []
    → new ≡ old ++ (front ++ (flat_map f xs ++ end_array ∷ []))
items_ended f xs i old front now new all is more =
    more ∙ ap (λ ts. ts ++ end_array ∷ []) is ∙ append_assoc old (front ++ flat_map f (take i xs)) (end_array ∷ [])
    ∙ ap (λ ts. old ++ ts) (append_assoc front (flat_map f (take i xs)) (end_array ∷ [])
    ∙ ap (λ ys. front ++ (flat_map f ys ++ end_array ∷ [])) (take_all i xs all))

-- what follows from two facts of an Ok
pub both_ok : {T E : Type 0} (r : Result T E) (P Q R : T → Type 0) → ((t : T) → P t → Q t → R t)
    → IfOk r P → IfOk r Q → IfOk r R
both_ok (Ok t) P Q R f p q = f t p q
both_ok (Err e) P Q R f p q = tt

-- entries with a member behind them
pub set_list_tokens : (flags : ℕ) (es : List EntryModel) (p : Path)
    → (((((begin_object ∷ []) ++ (key (codes "aclflag") ∷ number (decimal flags) ∷ []))
    ++ (key (codes "cmd") ∷ string (codes "SETLIST") ∷ []))
    ++ (key (codes "entries") ∷ begin_array ∷ items_tokens (items_outline (entries es))))
    ++ (key (codes "path") ∷ string (path_text p) ∷ []))
    ++ end_object ∷ []
    ≡ json_tokens (outline (command_data (C.SetList flags es p)))
set_list_tokens flags es p =
    ap (λ ts. begin_object ∷ key (codes "aclflag") ∷ number (decimal flags) ∷ key (codes "cmd") ∷ string
    (codes "SETLIST") ∷ key (codes "entries") ∷ begin_array ∷ ts)
    (append_assoc (items_tokens (items_outline (entries es))) (key (codes "path") ∷ string (path_text p) ∷ [])
    (end_object ∷ []))
