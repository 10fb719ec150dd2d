-- The roster: who may ask, with their groups.
use Rattle.std.specs.Prelude.{◌≡◌, ℕ, ◌≤◌, Bool, not, ◌&&◌, nat_lt, nat_le, List, [], ◌∷◌, ◌++◌, length}
use Rattle.std.specs.Prelude.{Option, Result, Ok, Err}
use Rattle.std.specs.List.{find, AllByRecursion}
use Rattle.std.specs.Option.{option_map, is_some}
use Rattle.std.specs.Ordering.{match_ordering}
use Rattle.std.specs.Str.{bytes_eq}
use Rattle.std.specs.declared.cmp.Ordering.TheVariants.{Less, Equal, Greater}
use Rattle.room_acl.specs.SubjectModel.{SubjectModel}
use Rattle.room_records.specs.Limits.{max_users, max_groups}
use Rattle.room_records.specs.Names.{name_cmp}

-- each user's name is below the next one, by bytes: no user stands twice
abbrev pub AreInNameOrder : List SubjectModel → Type 0
AreInNameOrder [] = Unit {0}
AreInNameOrder (a ∷ []) = Unit {0}
AreInNameOrder (a ∷ b ∷ users) = (name_cmp a.name b.name ≡ Less) × AreInNameOrder (b ∷ users)

-- users in name order, within the limits
pub record IsRoster (users : List SubjectModel) : Type 0 where
  pub in_order : AreInNameOrder users
  pub few : length users ≤ max_users
  pub few_groups : AllByRecursion (λ (user : SubjectModel). length user.groups ≤ max_groups) users

abbrev pub user_named : List SubjectModel → List ℕ → Option SubjectModel
user_named users name = find (λ (user : SubjectModel). bytes_eq user.name name) users

abbrev pub groups_of : List SubjectModel → List ℕ → Option (List (List ℕ))
groups_of users name = option_map (λ (user : SubjectModel). user.groups) (user_named users name)

-- there is room for a user with these groups, and no user of the name
abbrev pub may_join : List SubjectModel → List ℕ → List (List ℕ) → Bool
may_join users name groups =
    nat_le (length groups) max_groups && (nat_lt (length users) max_users && not (is_some (user_named users name)))

-- the users with one more, in its place
abbrev pub with_user : List SubjectModel → SubjectModel → List SubjectModel
with_user [] user = user ∷ []
with_user (other ∷ users) user =
    match_ordering (name_cmp user.name other.name) (user ∷ other ∷ users) (other ∷ users) (other ∷ with_user users user)

-- these users stand before the name
abbrev pub AreBefore : List ℕ → List SubjectModel → Type 0
AreBefore name users = AllByRecursion (λ (user : SubjectModel). name_cmp name user.name ≡ Greater) users

-- the first of these users stands behind the name
abbrev pub StartsBehind : List ℕ → List SubjectModel → Type 0
StartsBehind name [] = Unit {0}
StartsBehind name (user ∷ users) = name_cmp name user.name ≡ Less

-- where a name stands among users in order, or else where it would stand
abbrev pub IsIndexOf : List SubjectModel → List ℕ → Result ℕ ℕ → Type 0
IsIndexOf users name (Ok place) =
    (front : List SubjectModel) × (user : SubjectModel) × (back : List SubjectModel)
    × (users ≡ front ++ user ∷ back) × (length front ≡ place) × AreBefore name front × (name_cmp name user.name ≡ Equal)
IsIndexOf users name (Err place) =
    (front : List SubjectModel) × (back : List SubjectModel)
    × (users ≡ front ++ back) × (length front ≡ place) × AreBefore name front × StartsBehind name back
