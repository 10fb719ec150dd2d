-- A user of the roster by name: the groups that stand there for a name, beside it.
use Rattle.room_wire.proofs.Common.{◌≡◌, ℕ, Bool, true, false, List, [], ◌∷◌, cond, refl, sym, ap, ◌∙◌, Some, bytes_eq}
use Rattle.room_wire.proofs.Common.{option_map, same_Some, bytes_eq-Decides}
use Rattle.room_acl.specs.SubjectModel.{SubjectModel}
use Rattle.room_records.specs.Roster.{user_named, groups_of}

user_is : (users : List SubjectModel) (name : List ℕ) (groups : List (List ℕ))
    → Some groups ≡ groups_of users name → Some (record { name = name; groups = groups }) ≡ user_named users name
user_is [] name groups e = absurd cc
user_is (user ∷ users) name groups e = by (bytes_eq user.name name) refl e (user_is users name groups)
  where
    by : (same : Bool) → bytes_eq user.name name ≡ same
        → Some groups ≡ option_map (λ (it : SubjectModel). it.groups) (cond same (Some user) (user_named users name))
        → (Some groups ≡ groups_of users name
        → Some (record { name = name; groups = groups }) ≡ user_named users name)
        → Some (record { name = name; groups = groups }) ≡ cond same (Some user) (user_named users name)
    by true same e rest =
        let is : user.name ≡ name = (bytes_eq-Decides user.name name).0 same in
        let of : groups ≡ user.groups = same_Some groups user.groups e in
        (λ i. Some (record { name = sym is i; groups = of i }))
    by false same e rest = rest e

-- and the same of a copy of the groups
pub user_with : (users : List SubjectModel) (name : List ℕ) (groups copy : List (List ℕ))
    → Some groups ≡ groups_of users name → copy ≡ groups
    → Some (record { name = name; groups = copy }) ≡ user_named users name
user_with users name groups copy there same =
    ap (λ it. Some (record { name = name; groups = it })) same ∙ user_is users name groups there
