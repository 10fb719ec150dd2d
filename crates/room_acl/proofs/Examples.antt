-- Worked examples, computed by the definitions.
use Rattle.room_acl.proofs.Common.{◌≡◌, ℕ, refl, true, false, List, [], ◌∷◌, Some, codes, replicate, Who, Owner}
use Rattle.room_acl.proofs.Common.{Everyone, User, Members, Standing, Allowed, Denied, SubjectModel, EntryModel}
use Rattle.room_acl.proofs.Common.{decision, allowed_mask, handed_down, own_entries_fault}
use Rattle.room_acl.specs.declared.subject.Kind.TheVariants.{File, Folder}
use Rattle.room_acl.specs.declared.inheritance.ListFault.TheVariants.{Inval, AttrNotSupp}

abbrev ann : List ℕ
ann = codes "ann"

abbrev eng : List ℕ
eng = codes "eng"

abbrev allow_entry : ℕ → ℕ → Who → EntryModel
allow_entry flags mask who = record { allow = true; flags = flags; mask = mask; who = who }

abbrev deny_entry : ℕ → ℕ → Who → EntryModel
deny_entry flags mask who = record { allow = false; flags = flags; mask = mask; who = who }

abbrev of_nobody : Standing
of_nobody = record { owner = codes "o"; group = codes "g" }

abbrev alone : List ℕ → SubjectModel
alone name = record { name = name; groups = [] }

-- deny ann 2, allow EVERYONE@ 3: of 3 ann has 1, and is refused 2
one_question : decision (deny_entry 0 2 (User ann) ∷ allow_entry 0 3 Everyone ∷ []) (alone ann) of_nobody 3 ≡ Denied 2
one_question = refl

one_question_allowed : decision (deny_entry 0 2 (User ann) ∷ allow_entry 0 3 Everyone ∷ [])
    (alone ann) of_nobody 1 ≡ Allowed
one_question_allowed = refl

one_question_mask : allowed_mask (deny_entry 0 2 (User ann) ∷ allow_entry 0 3 Everyone ∷ []) (alone ann) of_nobody ≡ 1
one_question_mask = refl

first_match_decides : decision (allow_entry 0 2 (User ann) ∷ deny_entry 0 2 Everyone ∷ [])
    (alone ann) of_nobody 2 ≡ Allowed
first_match_decides = refl

inherit_only : decision (allow_entry 0x0B 1 (User ann) ∷ []) (alone ann) of_nobody 1 ≡ Denied 1
inherit_only = refl

inherit_only_to_a_file : handed_down (allow_entry 0x0B 1 (User ann) ∷ []) File ≡ allow_entry 128 1 (User ann) ∷ []
inherit_only_to_a_file = refl

inherit_only_to_a_folder : handed_down (allow_entry 0x0B 1 (User ann) ∷ []) Folder ≡ allow_entry 131 1 (User ann) ∷ []
inherit_only_to_a_folder = refl

three_entries_handed_down : handed_down
    (allow_entry 1 1 (User ann) ∷ allow_entry 6 2 (User ann) ∷ allow_entry 5 4 (User ann) ∷ []) Folder
    ≡ allow_entry 137 1 (User ann) ∷ allow_entry 128 2 (User ann) ∷ []
three_entries_handed_down = refl

three_entries_to_a_file : handed_down
    (allow_entry 1 1 (User ann) ∷ allow_entry 6 2 (User ann) ∷ allow_entry 5 4 (User ann) ∷ []) File
    ≡ allow_entry 128 1 (User ann) ∷ allow_entry 128 4 (User ann) ∷ []
three_entries_to_a_file = refl

user_or_group_a_user : decision (allow_entry 0 1 (User eng) ∷ [])
    (record { name = ann; groups = eng ∷ [] }) of_nobody 1 ≡ Denied 1
user_or_group_a_user = refl

user_or_group_a_group : decision (allow_entry 64 1 (Members eng) ∷ [])
    (record { name = ann; groups = eng ∷ [] }) of_nobody 1 ≡ Allowed
user_or_group_a_group = refl

user_of_that_name : decision (allow_entry 0 1 (User eng) ∷ []) (alone eng) of_nobody 1 ≡ Allowed
user_of_that_name = refl

user_is_no_group : decision (allow_entry 64 1 (Members eng) ∷ []) (alone eng) of_nobody 1 ≡ Denied 1
user_is_no_group = refl

-- OWNER@ is denied both of the owner's rights: the owner has them all the same, and nobody else
abbrev owners_denied : List EntryModel
owners_denied = deny_entry 0 393216 Owner ∷ []

abbrev of_user : Standing
of_user = record { owner = codes "u"; group = codes "g" }

owner_is_refused_another_right : decision owners_denied (alone (codes "u")) of_user 393217 ≡ Denied 1
owner_is_refused_another_right = refl

owner_has_both_rights : decision owners_denied (alone (codes "u")) of_user 393216 ≡ Allowed
owner_has_both_rights = refl

owner_has_no_other : allowed_mask owners_denied (alone (codes "u")) of_user ≡ 393216
owner_has_no_other = refl

others_have_neither : decision owners_denied (alone (codes "v")) of_user 393217 ≡ Denied 1
others_have_neither = refl

others_have_nothing : allowed_mask owners_denied (alone (codes "v")) of_user ≡ 0
others_have_nothing = refl

-- who is in the owning group is no owner, and neither is a user who has the group's name
owning_group_has_neither : allowed_mask [] (record { name = codes "v"; groups = codes "g" ∷ [] }) of_user ≡ 0
owning_group_has_neither = refl

users_named_as_the_group_have_neither : allowed_mask [] (alone (codes "g")) of_user ≡ 0
users_named_as_the_group_have_neither = refl

inherit_only_on_a_file : own_entries_fault (allow_entry 8 1 (User ann) ∷ []) File ≡ Some AttrNotSupp
inherit_only_on_a_file = refl

count_before_flags : own_entries_fault
    (allow_entry 8 1 (User ann) ∷ replicate 32 (allow_entry 0 1 (User ann))) File ≡ Some Inval
count_before_flags = refl

group_flag_to_a_file : handed_down (allow_entry 67 1 (Members eng) ∷ []) File ≡ allow_entry 192 1 (Members eng) ∷ []
group_flag_to_a_file = refl

group_flag_is_kept : handed_down (allow_entry 67 1 (Members eng) ∷ []) Folder ≡ allow_entry 195 1 (Members eng) ∷ []
group_flag_is_kept = refl
