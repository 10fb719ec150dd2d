-- The document that stands for a roster.
use Rattle.std.specs.Prelude.{◌≡◌, ℕ, List, [], ◌∷◌, map, Some, codes}
use Rattle.std.specs.List.{AllByRecursion}
use Rattle.toml.specs.Data.{string, array, table, Items, Members, no_members, member}
use Rattle.toml.specs.Parse.{parse_document}
use Rattle.toml.specs.View.{items_of}
use Rattle.room_acl.specs.Principals.{IsPrincipal}
use Rattle.room_acl.specs.SubjectModel.{SubjectModel}
use Rattle.room_records.specs.Roster.{IsRoster}

abbrev pub list_of_names : List (List ℕ) → Items
list_of_names names = items_of (map string names)

-- each user's name, with the list of its groups
abbrev pub table_of_users : List SubjectModel → Members
table_of_users [] = no_members
table_of_users (user ∷ users) = member user.name (array (list_of_names user.groups)) (table_of_users users)

abbrev pub user_of : List ℕ → List (List ℕ) → SubjectModel
user_of name groups = record { name = name; groups = groups }

abbrev pub IsNamed : SubjectModel → Type 0
IsNamed user = IsPrincipal user.name × AllByRecursion IsPrincipal user.groups

pub record IsNamedRoster (users : List SubjectModel) : Type 0 where
  pub roster : IsRoster users
  pub named : AllByRecursion IsNamed users

-- the text is a table `users`, and nothing else
pub record IsRosterText (text : List ℕ) (users : List SubjectModel) : Type 0 where
  pub document : parse_document text ≡ Some (member (codes "users") (table (table_of_users users)) no_members)
  pub lawful : IsNamedRoster users
