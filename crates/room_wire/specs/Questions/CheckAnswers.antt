-- The texts of the answers to questions.
use Rattle.std.specs.Prelude.{ℕ, List, [], ◌∷◌, None, codes}
use Rattle.std.specs.Option.{option_map_or}
use Rattle.serde_json.specs.Data.{Data, array}
use Rattle.serde_json.specs.Written.{compact_text}
use Rattle.room_acl.specs.declared.subject.Kind.{Kind}
use Rattle.room_acl.specs.declared.subject.Kind.TheVariants.{Folder}
use Rattle.room_acl.specs.declared.subject.Standing.{Standing}
use Rattle.room_acl.specs.declared.access.Decision.{Decision}
use Rattle.room_acl.specs.declared.access.Decision.TheVariants.{Allowed, Denied}
use Rattle.room_acl.specs.SubjectModel.{SubjectModel}
use Rattle.room_acl.specs.Entries.{EntryModel}
use Rattle.room_acl.specs.Access.{decision, allowed_of}
use Rattle.room_acl.specs.Inheritance.{handed_down, own_entries_fault}
use Rattle.room_commands.specs.Checks.{list_fault_code}
use Rattle.room_wire.specs.Questions.QuestionModel.{QuestionModel, OfList, OfChild}
use Rattle.room_wire.specs.Forms.Texts.{num, obj, ok}
use Rattle.room_wire.specs.Forms.Texts as T

-- the lowest wanted bit that is not allowed, or 0
abbrev pub bit_of : Decision → ℕ
bit_of Allowed = 0
bit_of (Denied bit) = bit

abbrev pub allowed_data : (allowed bit : ℕ) → Data
allowed_data allowed bit = obj ((codes "allowed", num allowed) ∷ (codes "bit", num bit) ∷ ok ∷ [])

-- the wanted rights that are allowed, and the lowest that is not
abbrev pub rights_text : List EntryModel → SubjectModel → Standing → ℕ → List ℕ
rights_text entries subject standing mask =
    compact_text (allowed_data (allowed_of entries subject standing mask)
    (bit_of (decision entries subject standing mask)))

abbrev pub entries_data : List EntryModel → Data
entries_data entries = obj (ok ∷ (codes "entries", array (T.entries entries)) ∷ [])

-- the fault of the entries as a folder's own, or what they hand down to a child of this kind
abbrev pub child_text : List EntryModel → Kind → List ℕ
child_text entries kind =
    compact_text (option_map_or (λ fault. T.refusal_data (list_fault_code fault) None)
    (own_entries_fault entries Folder) (entries_data (handed_down entries kind)))

abbrev pub answer_text : QuestionModel → List ℕ
answer_text (OfList entries subject standing mask) = rights_text entries subject standing mask
answer_text (OfChild kind entries) = child_text entries kind
