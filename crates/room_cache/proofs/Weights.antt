-- What rows weigh, after calls.
use Rattle.room_cache.proofs.Common.{◌≡◌, ◌≤◌, ◌+◌, ℕ, Bool, true, false, cond, List, [], ◌∷◌, arith, Result, Ok, Err}
use Rattle.room_cache.proofs.Common.{OnOk, OnErr, match_ordering, weight}
use Rattle.std.specs.BTreeMap.{insert_entry}
use Rattle.std.specs.Map.{remove_entry}
use Rattle.std.specs.declared.cmp.Ordering.{Ordering}
use Rattle.std.specs.declared.cmp.Ordering.TheVariants.{Less, Equal, Greater}

module _ {K V : Type 0} (w : V → ℕ) where
  pub removed : (test : K → Bool) (rows : List (K × V)) → weight w (remove_entry test rows) ≤ weight w rows
  removed test [] = omega arith
  removed test (row ∷ rows) = one (test row.0) (removed test rows)
    where
      one : (b : Bool) → weight w (remove_entry test rows) ≤ weight w rows
          → weight w (cond b rows (row ∷ remove_entry test rows)) ≤ w row.1 + weight w rows
      one true less = omega arith
      one false less = omega arith

  pub inserted : (cmp : K → K → Ordering) (rows : List (K × V)) (k : K) (v : V)
      → weight w (insert_entry cmp rows k v) ≤ weight w rows + w v
  inserted cmp [] k v = omega arith
  inserted cmp (row ∷ rows) k v = one (cmp k row.0) (inserted cmp rows k v)
    where
      one : (o : Ordering) → weight w (insert_entry cmp rows k v) ≤ weight w rows + w v
          → weight w (match_ordering o ((k, v) ∷ row ∷ rows) ((row.0, v) ∷ rows)
          (row ∷ insert_entry cmp rows k v)) ≤ w row.1 + weight w rows + w v
      one Less less = omega arith
      one Equal less = omega arith
      one Greater less = omega arith

  pub put : {X E : Type 0} (cmp : K → K → Ordering) (old new : List (K × V)) (k : K) (v : V) (result : Result X E)
      → OnOk result (new ≡ insert_entry cmp old k v) → OnErr result (new ≡ old)
      → weight w new ≤ weight w old + w v
  put cmp old new k v (Ok x) is err = rw is (inserted cmp old k v)
  put cmp old new k v (Err x) ok is = rw is (omega arith)
