-- Questions, and the bodies that ask them.
use Rattle.std.specs.Prelude.{ℕ, List, Option, None, if◌then◌else◌, option_and_then, option_map, codes}
use Rattle.std.specs.Option.{option_zip}
use Rattle.serde_json.specs.Data.{Data}
use Rattle.room_acl.specs.declared.subject.Kind.{Kind}
use Rattle.room_acl.specs.declared.subject.Standing.{Standing}
use Rattle.room_acl.specs.SubjectModel.{SubjectModel}
use Rattle.room_acl.specs.Entries.{EntryModel}
use Rattle.room_wire.specs.Forms.Reading.{has_count, json_of, text_at, entry_in, all_at, principal_in, principal_at}
use Rattle.room_wire.specs.Forms.Reading.{mask_at, kind_from}
use Rattle.room_wire.specs.declared.questions.question.Question.{Question}
use Rattle.room_wire.specs.declared.questions.question.Question.TheVariants.{List as AskList, Child as AskChild}

-- what a list allows somebody, where the object has this standing, of the wanted bits; or what the own entries of a
-- folder hand down to a child of this kind
pub data QuestionModel : Type 0 where
  OfList : List EntryModel → SubjectModel → Standing → (mask : ℕ) → QuestionModel
  OfChild : Kind → List EntryModel → QuestionModel

abbrev pub question_model : Question → QuestionModel
question_model (AskList entries group groups mask owner user) =
    OfList entries.items (record { name = user; groups = groups.items }) (record { owner = owner; group = group }) mask
question_model (AskChild kind entries) = OfChild kind entries.items

-- the parts of the first question, in the order of their names
abbrev pub of_list : List EntryModel × (List ℕ × (List (List ℕ) × (ℕ × (List ℕ × List ℕ)))) → QuestionModel
of_list (entries, (group, (groups, (mask, (owner, user))))) =
    OfList entries (record { name = user; groups = groups }) (record { owner = owner; group = group }) mask

-- what a list allows: six members, exactly
abbrev pub list_question_in : Data → Option QuestionModel
list_question_in d =
    if has_count 6 d then option_map of_list
    (option_zip (all_at entry_in (codes "entries") d) (option_zip (principal_at (codes "group") d)
    (option_zip (all_at principal_in (codes "groups") d) (option_zip (mask_at (codes "mask") d)
    (option_zip (principal_at (codes "owner") d) (principal_at (codes "user") d))))))
    else None

-- the two shapes differ in how many members they have
abbrev pub question_in : Data → Option QuestionModel
question_in d =
    if has_count 2 d then option_map (λ (kind, entries). OfChild kind entries)
    (option_zip (option_and_then kind_from (text_at (codes "child") d)) (all_at entry_in (codes "entries") d))
    else list_question_in d

abbrev pub question_of_body : List ℕ → Option QuestionModel
question_of_body body = option_and_then question_in (json_of body)
