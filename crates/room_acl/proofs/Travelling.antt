-- What is handed down: by whom the flags are read, and what comes of handing down twice.
use Rattle.room_acl.proofs.Common.{◌≡◌, ℕ, refl, ap, sym, ◌∙◌, Bool, true, false, List, [], ◌∷◌, Option, Some, None}
use Rattle.room_acl.proofs.Common.{inl, inr, arith, ◌&&◌, ◌==◌, not, cond, bit_and, bit_or, list_all, AllByRecursion}
use Rattle.room_acl.proofs.Common.{cons_option, common_steps, and_parts, Who, Everyone, IsFlags, all_flags}
use Rattle.room_acl.proofs.Common.{identifier_group_flag, file_inherit, directory_inherit, no_propagate}
use Rattle.room_acl.proofs.Common.{identifier_group, is_inherited, EntryModel, IsEntry, names_its_kind, table_row}
use Rattle.room_acl.proofs.Common.{in_column, flags_handed_down, flags_with_group, entry_handed_down, handed_down}
use Rattle.room_acl.proofs.Common.{travelling, may_be_own, HandsDownTwice, HandsDownMarked, HandsDownEntries}
use Rattle.room_acl.proofs.Common.{HandsDownToOwn}
use Rattle.std.specs.Option.{option_map, option_map_or, option_and_then}
use Rattle.room_acl.specs.declared.subject.Kind.{Kind}
use Rattle.room_acl.specs.declared.subject.Kind.TheVariants.{File, Folder}
use Rattle.room_acl.proofs.BitTests.{group_alone}

-- the flags given, where the source's IDENTIFIER_GROUP is g
abbrev given_by : Kind → Bool → Bool → Bool → ℕ → Option ℕ
given_by kind f d n g = option_map (λ given. bit_or given g) (in_column kind (table_row f d n))

abbrev with_flags : EntryModel → ℕ → EntryModel
with_flags entry flags = record entry { flags = flags }

abbrev plain : ℕ → EntryModel
plain flags = record { allow = true; flags = flags; mask = 0; who = Everyone }

-- what given flags keep to: they are flags, with the mark, lawful where they arrive, and IDENTIFIER_GROUP is b
abbrev keeps : Kind → Bool → ℕ → Bool
keeps kind b flags =
    (bit_and flags all_flags == flags) && (is_inherited flags
    && (may_be_own kind (plain flags) && cond b (identifier_group flags) (not (identifier_group flags))))

-- row by row: what is given to a folder and from there to the kind, and that given flags keep to it
rows : (kind : Kind) (f d n : Bool) →
    (option_and_then (flags_with_group kind) (given_by Folder f d n 0) ≡ cond (not n) (given_by kind f d n 0) None)
    × (option_and_then (flags_with_group kind) (given_by Folder f d n 64) ≡ cond (not n) (given_by kind f d n 64) None)
    × (option_map_or (keeps kind false) (given_by kind f d n 0) true ≡ true)
    × (option_map_or (keeps kind true) (given_by kind f d n 64) true ≡ true)
rows File false false false = (refl, refl, refl, refl)
rows File false false true = (refl, refl, refl, refl)
rows File false true false = (refl, refl, refl, refl)
rows File false true true = (refl, refl, refl, refl)
rows File true false false = (refl, refl, refl, refl)
rows File true false true = (refl, refl, refl, refl)
rows File true true false = (refl, refl, refl, refl)
rows File true true true = (refl, refl, refl, refl)
rows Folder false false false = (refl, refl, refl, refl)
rows Folder false false true = (refl, refl, refl, refl)
rows Folder false true false = (refl, refl, refl, refl)
rows Folder false true true = (refl, refl, refl, refl)
rows Folder true false false = (refl, refl, refl, refl)
rows Folder true false true = (refl, refl, refl, refl)
rows Folder true true false = (refl, refl, refl, refl)
rows Folder true true true = (refl, refl, refl, refl)

flags_twice : (kind : Kind) (flags : ℕ) →
    option_and_then (flags_with_group kind) (flags_with_group Folder flags)
    ≡ cond (not (no_propagate flags)) (flags_with_group kind flags) None
flags_twice kind flags =
    let row = rows kind (file_inherit flags) (directory_inherit flags) (no_propagate flags) in
    elim (group_alone flags) [ inl p ↦ rw p.0 row.0 | inr p ↦ rw p.0 row.1 ]

entry_by_flags : (kind : Kind) (entry : EntryModel) (o : Option ℕ) →
    option_and_then (entry_handed_down kind) (option_map (with_flags entry) o)
    ≡ option_map (with_flags entry) (option_and_then (flags_with_group kind) o)
entry_by_flags kind entry None = refl
entry_by_flags kind entry (Some flags) = refl

map_cond : (entry : EntryModel) (b : Bool) (o : Option ℕ)
    → option_map (with_flags entry) (cond b o None) ≡ cond b (option_map (with_flags entry) o) None
map_cond entry true o = refl
map_cond entry false o = refl

entry_twice : (kind : Kind) (entry : EntryModel) →
    option_and_then (entry_handed_down kind) (entry_handed_down Folder entry)
    ≡ cond (not (no_propagate entry.flags)) (entry_handed_down kind entry) None
entry_twice kind entry =
    entry_by_flags kind entry (flags_with_group Folder entry.flags)
    ∙ ap (option_map (with_flags entry)) (flags_twice kind entry.flags)
    ∙ map_cond entry (not (no_propagate entry.flags)) (flags_with_group kind entry.flags)

map_front : (kind : Kind) (o : Option EntryModel) (rest : List EntryModel) →
    handed_down (cons_option o rest) kind
    ≡ cons_option (option_and_then (entry_handed_down kind) o) (handed_down rest kind)
map_front kind None rest = refl
map_front kind (Some entry) rest = refl

filter_front : (kind : Kind) (entry : EntryModel) (rest : List EntryModel) (b : Bool) →
    cons_option (cond b (entry_handed_down kind entry) None) (handed_down rest kind)
    ≡ handed_down (cond b (entry ∷ rest) rest) kind
filter_front kind entry rest true = refl
filter_front kind entry rest false = refl

pub hands_down_twice : HandsDownTwice
hands_down_twice [] kind = refl
hands_down_twice (entry ∷ rest) kind =
    map_front kind (entry_handed_down Folder entry) (handed_down rest Folder)
    ∙ ap (λ o. cons_option o (handed_down (handed_down rest Folder) kind)) (entry_twice kind entry)
    ∙ ap (cons_option (cond (not (no_propagate entry.flags)) (entry_handed_down kind entry) None))
    (hands_down_twice rest kind)
    ∙ filter_front kind entry (travelling rest) (not (no_propagate entry.flags))

pub record IsGiven (kind : Kind) (flags given : ℕ) : Type 0 where
  pub are_flags : IsFlags given
  pub marked : is_inherited given ≡ true
  pub own : may_be_own kind (plain given) ≡ true
  pub group : identifier_group given ≡ identifier_group flags

same_group : (b x y : Bool) → y ≡ b → cond b x (not x) ≡ true → x ≡ y
same_group b x y is h = grind (arith, common_steps)

IsGiven-from_keeps : (kind : Kind) (b : Bool) (flags given : ℕ)
    → identifier_group flags ≡ b → keeps kind b given ≡ true → IsGiven kind flags given
IsGiven-from_keeps kind b flags given group is =
    let one = and_parts (bit_and given all_flags == given) (is_inherited given
    && (may_be_own kind (plain given) && cond b (identifier_group given) (not (identifier_group given)))) is in
    let two = and_parts (is_inherited given)
    (may_be_own kind (plain given) && cond b (identifier_group given) (not (identifier_group given))) one.1 in
    let three = and_parts (may_be_own kind (plain given))
    (cond b (identifier_group given) (not (identifier_group given))) two.1 in
    record { are_flags = one.0; marked = two.0; own = three.0; group = same_group b _ _ group three.1 }

pub is_given : (kind : Kind) (flags given : ℕ) → flags_with_group kind flags ≡ Some given → IsGiven kind flags given
is_given kind flags given found =
    let f = file_inherit flags in
    let d = directory_inherit flags in
    let n = no_propagate flags in
    let row = rows kind f d n in
    elim (group_alone flags) [
      | inl p ↦ IsGiven-from_keeps kind false flags given p.1
          (sym (ap (λ o. option_map_or (keeps kind false) o true) (sym (ap (given_by kind f d n) p.0) ∙ found))
          ∙ row.2)
      | inr p ↦ IsGiven-from_keeps kind true flags given p.1
          (sym (ap (λ o. option_map_or (keeps kind true) o true) (sym (ap (given_by kind f d n) p.0) ∙ found)) ∙ row.3)
    ]

-- the same from a row of the table
pub row_is_given : (kind : Kind) (flags given bits : ℕ) → flags_handed_down kind flags ≡ Some given
    → bits ≡ flags → IsGiven kind flags (bit_or given (bit_and bits identifier_group_flag))
row_is_given kind flags given bits row same =
    is_given kind flags _ (ap (option_map (λ g. bit_or g (bit_and flags identifier_group_flag))) row
    ∙ ap (λ n. Some (bit_or given (bit_and n identifier_group_flag))) (sym same))

mapped-some : (entry y : EntryModel) (o : Option ℕ) → option_map (with_flags entry) o ≡ Some y
    → (given : ℕ) × ((o ≡ Some given) × (with_flags entry given ≡ y))
mapped-some entry y o is = grind (arith, common_steps)

list_all-front : (p : EntryModel → Bool) (o : Option EntryModel) (rest : List EntryModel)
    → ((y : EntryModel) → o ≡ Some y → p y ≡ true)
    → list_all p rest ≡ true → list_all p (cons_option o rest) ≡ true
list_all-front p None rest each all = all
list_all-front p (Some y) rest each all = ap (λ b. b && list_all p rest) (each y refl) ∙ all

marked : (kind : Kind) (entry y : EntryModel) → entry_handed_down kind entry ≡ Some y → is_inherited y.flags ≡ true
marked kind entry y is =
    let some = mapped-some entry y (flags_with_group kind entry.flags) is in
    ap (λ e. is_inherited e.flags) (sym some.1.1) ∙ (is_given kind entry.flags some.0 some.1.0).marked

pub hands_down_marked : HandsDownMarked
hands_down_marked [] kind = refl
hands_down_marked (entry ∷ rest) kind = list_all-front (λ e. is_inherited e.flags)
    (entry_handed_down kind entry) (handed_down rest kind) (marked kind entry) (hands_down_marked rest kind)

by_flags_alone : (kind : Kind) (entry : EntryModel) (flags : ℕ)
    → may_be_own kind (plain flags) ≡ may_be_own kind (with_flags entry flags)
by_flags_alone File entry flags = refl
by_flags_alone Folder entry flags = refl

own : (kind : Kind) (entry y : EntryModel) → entry_handed_down kind entry ≡ Some y → may_be_own kind y ≡ true
own kind entry y is =
    let some = mapped-some entry y (flags_with_group kind entry.flags) is in
    ap (may_be_own kind) (sym some.1.1) ∙ sym (by_flags_alone kind entry some.0)
    ∙ (is_given kind entry.flags some.0 some.1.0).own

pub hands_down_to_own : HandsDownToOwn
hands_down_to_own [] kind = refl
hands_down_to_own (entry ∷ rest) kind = list_all-front (may_be_own kind) (entry_handed_down kind entry)
    (handed_down rest kind) (own kind entry) (hands_down_to_own rest kind)

names_same : (given flags : ℕ) (who : Who) → identifier_group given ≡ identifier_group flags
    → names_its_kind flags who ≡ true → names_its_kind given who ≡ true
names_same given flags who same is = grind (arith, common_steps)

lawful : (kind : Kind) (entry y : EntryModel) → IsEntry entry → entry_handed_down kind entry ≡ Some y → IsEntry y
lawful kind entry y source is =
    let some = mapped-some entry y (flags_with_group kind entry.flags) is in
    let given = is_given kind entry.flags some.0 some.1.0 in
    let made : IsEntry (with_flags entry some.0) =
    record {
      flags = given.are_flags;
      mask = source.mask;
      who = source.who;
      kind = names_same some.0 entry.flags entry.who given.group source.kind;
    } in
    rw (← some.1.1) made

each-front : (o : Option EntryModel) (rest : List EntryModel) → ((y : EntryModel) → o ≡ Some y → IsEntry y)
    → AllByRecursion IsEntry rest → AllByRecursion IsEntry (cons_option o rest)
each-front None rest each all = all
each-front (Some y) rest each all = (each y refl, all)

pub hands_down_entries : HandsDownEntries
hands_down_entries [] kind all = tt
hands_down_entries (entry ∷ rest) kind all = each-front (entry_handed_down kind entry)
    (handed_down rest kind) (λ y. lawful kind entry y all.0) (hands_down_entries rest kind all.1)
