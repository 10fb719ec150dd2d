-- What is known of the object that a commit makes stays so.
use Rattle.room_sql.proofs.Common.{Global, ℕ, nat_lt, inl, inr, Vec, cases_Bool, Trees, EntryModel, PutEntries, PutNext}
use Rattle.room_sql.specs.declared.new_object.NewObject.{NewObject}
use Rattle.room_sql.specs.NewObject.{lacks_entries, after_change, NoEntriesIfKnown}

-- of a number that is new nothing is said
pub no_entries_after_next : (object : NewObject) (next : ℕ) (trees : Trees)
    → NoEntriesIfKnown (after_change object (PutNext next)) trees
no_entries_after_next object next trees = elim (cases_Bool (nat_lt 0 next)) [
  | inl some ↦ rw some tt
  | inr none ↦ rw none tt
]

pub no_entries_after_entries : (object : NewObject) (id : ℕ) (entries : Vec EntryModel Global) (trees : Trees)
    → NoEntriesIfKnown (after_change object (PutEntries id entries)) trees
no_entries_after_entries object id entries trees = elim (cases_Bool (lacks_entries object id)) [
  | inl some ↦ rw some tt
  | inr none ↦ rw none tt
]
