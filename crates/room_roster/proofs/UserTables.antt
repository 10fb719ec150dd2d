-- A table of users, read from the front.
use Rattle.std.proofs.Common.{◌≡◌, ℕ, ◌≤◌, ◌<◌, length, false, IfSome, IfNone, Bor, List, [], ◌∷◌, ◌++◌, refl, sym, ap}
use Rattle.std.proofs.Common.{◌∙◌, append_assoc, append-nil, arith, lit≤, Option, Some, None, option_map, codes}
use Rattle.std.specs.Prelude.{String, string_bytes}
use Rattle.std.specs.declared.alloc.Global.{Global}
use Rattle.std.specs.declared.cmp.Ordering.{Ordering}
use Rattle.std.specs.declared.cmp.Ordering.TheVariants.{Less, Equal, Greater}
use Rattle.std.specs.Ordering.{nat_cmp, match_ordering, is_eq}
use Rattle.std.specs.BTreeMap.{BTreeMap}
use Rattle.toml.specs.declared.value.Value.{Value}
use Rattle.std.proofs.lemmas.Map.Text.{is_eq-slice_cmp}
use Rattle.std.proofs.lemmas.Slice.Eq.{bytes_eq-Decides}
use Rattle.std.specs.Cmp.Lexicographic.{slice_cmp}
use Rattle.std.specs.List.{AllByRecursion}
use Rattle.std.specs.List.Sorted.{IsStrictlySortedBy}
use Rattle.std.specs.Map.{keys_of}
use Rattle.std.specs.String.{string_cmp}
use Rattle.std.proofs.lemmas.List.{length-append}
use Rattle.toml.specs.Data.{Data, array, table, Members, no_members, member, get_member, as_table, string}
use Rattle.toml.specs.Data.{integer, float, boolean, datetime}
use Rattle.toml.specs.View.{view, members_view, table_view}
use Rattle.toml.proofs.Views.{Entry}
use Rattle.room_acl.specs.SubjectModel.{SubjectModel}
use Rattle.room_records.specs.Limits.{max_users, max_groups}
use Rattle.room_records.specs.Names.{name_cmp}
use Rattle.room_records.specs.Roster.{AreBefore, IsRoster, may_join, with_user}
use Rattle.room_records.proofs.Lists.{all_append}
use Rattle.room_records.proofs.Rosters.{absent, joins, greater_back}
use Rattle.room_roster.specs.Rosters.{list_of_names, table_of_users, user_of, IsNamed, IsNamedRoster}
use Rattle.room_roster.proofs.NameLists.{Reads, reads_none, all_here}

pub list_of_names-injective : (xs ys : List (List ℕ)) → list_of_names xs ≡ list_of_names ys → xs ≡ ys
list_of_names-injective [] [] e = refl
list_of_names-injective [] (y ∷ ys) e = cc
list_of_names-injective (x ∷ xs) [] e = cc
list_of_names-injective (x ∷ xs) (y ∷ ys) e =
    let here : x ≡ y = cc in
    let behind : list_of_names xs ≡ list_of_names ys = cc in
    let more = list_of_names-injective xs ys behind in cc

more_is : (rest : Members) (done whole more : List SubjectModel) (key : List ℕ) (groups : List (List ℕ)) (d : Data)
    → d ≡ array (list_of_names groups) → whole ≡ done ++ more → member key d rest ≡ table_of_users more
    → (next : List SubjectModel) × (whole ≡ (done ++ user_of key groups ∷ []) ++ next) × (rest ≡ table_of_users next)
more_is rest done whole [] key groups d is whole_is r = cc
more_is rest done whole (other ∷ more) key groups d is whole_is r =
    let name_is : other.name ≡ key = cc in
    let list_is : list_of_names other.groups ≡ list_of_names groups = cc in
    let groups_are = list_of_names-injective other.groups groups list_is in
    let same : other ≡ user_of key groups = λ i. user_of (name_is i) (groups_are i) in
    let behind : rest ≡ table_of_users more = cc in
    (more, whole_is ∙ ap (λ u. done ++ u ∷ more) same ∙ sym (append_assoc done (user_of key groups ∷ []) more), behind)

pub reads_more : (all rest : Members) (done : List SubjectModel) (key : List ℕ) (groups : List (List ℕ)) (d : Data)
    → d ≡ array (list_of_names groups) → Reads table_of_users all (member key d rest) done
    → Reads table_of_users all rest (done ++ user_of key groups ∷ [])
reads_more all rest done key groups d is r = record {
  on = λ more e. r.on (user_of key groups ∷ more) (cc)
      ∙ ap table_of_users (sym (append_assoc done (user_of key groups ∷ []) more));
  back = λ whole e. let (more, whole_is, rest_is) = r.back whole e in
      more_is rest done whole more key groups d is whole_is rest_is;
}

-- each key behind stands behind the users
abbrev pub Behind : List SubjectModel → List Entry → Type 0
Behind done entries = AllByRecursion (λ (k : String Global). AreBefore (string_bytes k) done) (keys_of entries)

pub behind_none : (entries : List Entry) → Behind [] entries
behind_none [] = tt
behind_none (e ∷ entries) = (tt, behind_none entries)

behind_more : (done : List SubjectModel) (u : SubjectModel) (k : String Global) (entries : List Entry)
    → string_bytes k ≡ u.name → AllByRecursion (λ y. string_cmp k y ≡ Less) (keys_of entries)
    → Behind done entries → Behind (done ++ u ∷ []) entries
behind_more done u k [] is less behind = tt
behind_more done u k (e ∷ entries) is less behind = (
  all_append (λ (v : SubjectModel). name_cmp (string_bytes e.0) v.name ≡ Greater) done (u ∷ []) behind.0
      (greater_back u.name (string_bytes e.0) (rw (← is) less.0), tt),
  behind_more done u k entries is less.1 behind.1,
)

-- before each turn: these users were read, and what is left stands behind them
pub record SoFar (all : Members) (rest : List Entry) (done : List SubjectModel) : Type 0 where
  pub reads : Reads table_of_users all (members_view rest) done
  pub behind : Behind done rest
  pub sorted : IsStrictlySortedBy string_cmp (keys_of rest)
  pub lawful : IsNamedRoster done

pub first : (entries : List Entry) → IsStrictlySortedBy string_cmp (keys_of entries)
    → SoFar (members_view entries) entries []
first entries sorted = record {
  reads = reads_none table_of_users (members_view entries);
  behind = behind_none entries;
  sorted = sorted;
  lawful = record {
    roster = record { in_order = tt; few = lit≤ tt; few_groups = tt };
    named = tt;
  };
}

-- a user behind the others comes last
last_of : (u : SubjectModel) (done : List SubjectModel) → AreBefore u.name done → with_user done u ≡ done ++ u ∷ []
last_of u [] before = refl
last_of u (other ∷ done) before = rw before.0 (ap (λ us. other ∷ us) (last_of u done before.1))

-- a user was added, whose key the code read as a text
pub turn : (all : Members) (rest : List Entry) (done new : List SubjectModel)
    (e : Entry) (key : List ℕ) (groups : List (List ℕ)) → key ≡ string_bytes e.0
    → SoFar all (e ∷ rest) done → view e.1 ≡ array (list_of_names groups)
    → IsNamed (user_of key groups) → new ≡ with_user done (user_of key groups) → IsRoster new → SoFar all rest new
unfolding IsStrictlySortedBy
turn all rest done new e key groups key_is so is named new_is roster =
    let u = user_of (string_bytes e.0) groups in
    let last : new ≡ done ++ u ∷ [] = rw key_is at new_is ∙ last_of u done so.behind.0 in
    record {
      reads = rw last (reads_more all (members_view rest) done (string_bytes e.0) groups (view e.1) is so.reads);
      behind = rw last (behind_more done u e.0 rest refl so.sorted.0 so.behind.1);
      sorted = so.sorted.1;
      lawful = record {
        roster = roster;
        named = rw last (all_append IsNamed done (u ∷ []) so.lawful.named (rw key_is at named, tt));
      };
    }

-- a member that no user could be
pub refused : (all : Members) (rest : List Entry) (done users : List SubjectModel) (e : Entry) (key : List ℕ)
    → key ≡ string_bytes e.0 → SoFar all (e ∷ rest) done → all ≡ table_of_users users → IsNamedRoster users
    → ((groups : List (List ℕ)) → view e.1 ≡ array (list_of_names groups)
    → IsNamed (user_of key groups) → may_join done key groups ≡ false) → ⊥
refused all rest done users e key key_is so is lawful bad = let (more, users_are, rest_is) = so.reads.back users is in
    at more users_are rest_is
  where
    at : (more : List SubjectModel) → users ≡ done ++ more → members_view (e ∷ rest) ≡ table_of_users more → ⊥
    at [] users_are rest_is = cc
    at (u ∷ more) users_are rest_is =
        let bytes_are : string_bytes e.0 ≡ u.name = cc in
        let name_is : key ≡ u.name = key_is ∙ bytes_are in
        let groups_are : view e.1 ≡ array (list_of_names u.groups) = cc in
        let here : IsNamedRoster (done ++ u ∷ more) = rw users_are at lawful in
        let named : IsNamed u = all_here IsNamed done more u here.named in
        let few_groups : length u.groups ≤ max_groups =
        all_here (λ (v : SubjectModel). length v.groups ≤ max_groups) done more u here.roster.few_groups in
        let few : length (done ++ u ∷ more) ≤ max_users = here.roster.few in
        let room : length done < max_users = omega (arith, length-append done (u ∷ more)) in
        let none = absent done key (length done) so.lawful.roster.in_order
        (done, [], sym (append-nil done), refl, rw key_is so.behind.0, tt) in
        let yes = joins done key u.groups few_groups room none in
        let no = bad u.groups groups_are (rw name_is named.0, named.1) in
        cc

-- the one entry of a document
abbrev pub users_key : List ℕ
users_key = codes "users"

pub only : (entries : List Entry) (d : Data) → length entries ≡ 1
    → get_member users_key (members_view entries) ≡ Some d → members_view entries ≡ member users_key d no_members
only [] d one found = cc
only (e ∷ f ∷ entries) d one found = absurd (omega arith)
only (e ∷ []) d one found = by (slice_cmp nat_cmp users_key (string_bytes e.0)) refl found
  where
    by : (o : Ordering) → slice_cmp nat_cmp users_key (string_bytes e.0) ≡ o
        → match_ordering o None (Some (view e.1)) None ≡ Some d → members_view (e ∷ []) ≡ member users_key d no_members
    by Less is found = cc
    by Greater is found = cc
    by Equal is found = let same = (bytes_eq-Decides users_key (string_bytes e.0)).0
        (sym (is_eq-slice_cmp users_key (string_bytes e.0)) ∙ ap is_eq is) in cc

pub one_member : (entries : List Entry) (users : Members)
    → members_view entries ≡ member users_key (table users) no_members → length entries ≡ 1
one_member [] users e = cc
one_member (x ∷ []) users e = omega arith
one_member (x ∷ y ∷ entries) users e = cc

pub found_users : (all users : Members) → all ≡ member users_key (table users) no_members
    → get_member users_key all ≡ Some (table users)
found_users all users e = ap (get_member users_key) e

as_table_is : (d : Data) (ms : Members) → Some ms ≡ as_table d → d ≡ table ms
as_table_is (string s) ms e = cc
as_table_is (integer z) ms e = cc
as_table_is (float x) ms e = cc
as_table_is (boolean b) ms e = cc
as_table_is (datetime t) ms e = cc
as_table_is (array ds) ms e = cc
as_table_is (table ns) ms e = cc

abbrev pub TableMap : Type 0
TableMap = BTreeMap (String Global) Value

pub some_users : (entries : List Entry) (v : Value) (r : Option (Bor TableMap))
    → length entries ≡ 1 → get_member users_key (members_view entries) ≡ Some (view v)
    → option_map (λ m. table_view m.now) r ≡ as_table (view v)
    → IfSome r (λ users. members_view entries ≡ member users_key (table (table_view users.now)) no_members)
some_users entries v None one found is = tt
some_users entries v (Some t) one found is =
    only entries (view v) one found
    ∙ ap (λ d. member users_key d no_members) (as_table_is (view v) (table_view t.now) is)

pub no_users : (entries : List Entry) (v : Value) (r : Option (Bor TableMap))
    → get_member users_key (members_view entries) ≡ Some (view v)
    → option_map (λ m. table_view m.now) r ≡ as_table (view v)
    → IfNone r ((users : Members) → ¬ (members_view entries ≡ member users_key (table users) no_members))
no_users entries v (Some t) found is = tt
no_users entries v None found is = λ users e.
    let same : view v ≡ table users = cc (found_users (members_view entries) users e) in
    let some : None ≡ Some users = is ∙ ap as_table same in cc
