-- How many rows the changes of a command change.
use Rattle.room_tree.proofs.Common.{common_steps, ◌≡◌, ℕ, arith, true, false, not, [], ◌∷◌, ◌++◌, count_by-le-length}
use Rattle.room_tree.proofs.Common.{Vec, Global, EntryModel, Change, PutNode, PutDoc, PutNext, Node, ObjectRecords}
use Rattle.room_tree.proofs.Common.{ChangesFewRows, puts_entries, puts_entries_of, puts_new}

off : false ≡ true → ⊥
off h = cc

-- no change
pub few_none : (most : ℕ) (t : ObjectRecords) → ChangesFewRows most t []
few_none most t = record {
  once = λ id. omega arith;
  needed = λ id puts same. absurd (off puts);
  there = λ id puts. absurd (off puts);
  others = omega arith;
}

-- one change that puts no entries
pub few_one : (t : ObjectRecords) (change : Change)
    → ((id : ℕ) → puts_entries_of id change ≡ false) → ChangesFewRows 1 t (change ∷ [])
few_one t change none = record {
  once = λ id. count_by-le-length (puts_entries_of id) (change ∷ []);
  needed = λ id puts same. absurd (off (rw none at puts));
  there = λ id puts. absurd (off (rw none at puts));
  others = count_by-le-length (λ change. not (puts_entries change)) (change ∷ []);
}

module _ (t : ObjectRecords) (id : ℕ) (none : t.entries id ≡ []) (next : ℕ) (node : Node) (number : node.id ≡ id)
    (list : Vec EntryModel Global) where
  -- those of a new folder
  pub few_for_folder : ChangesFewRows 2 t (PutNext next ∷ PutNode node ∷ puts_new id list)
  few_for_folder = grind (arith, common_steps)

  -- and of a new document
  pub few_for_document : (bytes : Vec ℕ Global)
      → ChangesFewRows 3 t (PutNext next ∷ PutNode node ∷ puts_new id list ++ PutDoc id bytes ∷ [])
  few_for_document bytes = grind (arith, common_steps)
