-- The test of a bit says what the words say.
use Rattle.room_acl.proofs.Common.{◌≡◌, ℕ, refl, ap, true, false, inl, inr, List, [], ◌∷◌, ◌++◌, not, IsTrue}
use Rattle.room_acl.proofs.Common.{AllByRecursion, cases_Bool, not-true, Standing, SubjectModel, EntryModel}
use Rattle.room_acl.proofs.Common.{entries_allow, decides, EntriesAllow}

module _ (caller : SubjectModel) (standing : Standing) (bit : ℕ) where
  pub EntriesAllow-from_test : (entries : List EntryModel)
      → entries_allow entries caller standing bit ≡ true → EntriesAllow entries caller standing bit
  EntriesAllow-from_test [] h = let no : false ≡ true = h in cc
  EntriesAllow-from_test (entry ∷ entries) h = elim (cases_Bool (decides caller standing bit entry)) [
    | inl on ↦ record {
      earlier = [];
      entry = entry;
      later = entries;
      stands = refl;
      allow = rw on at h;
      applying = on;
      first = tt;
    }
    | inr off ↦ (
        let rest = EntriesAllow-from_test entries (rw off at h) in record {
          earlier = entry ∷ rest.earlier;
          entry = rest.entry;
          later = rest.later;
          stands = ap (λ es. entry ∷ es) rest.stands;
          allow = rest.allow;
          applying = rest.applying;
          first = (ap not off, rest.first);
        })
  ]

  pass_earlier : (earlier later : List EntryModel) (entry : EntryModel)
      → AllByRecursion (λ other. IsTrue (not (decides caller standing bit other))) earlier
      → decides caller standing bit entry ≡ true → entry.allow ≡ true
      → entries_allow (earlier ++ entry ∷ later) caller standing bit ≡ true
  pass_earlier [] later entry first on allow = rw on allow
  pass_earlier (e ∷ es) later entry first on allow =
      let off : decides caller standing bit e ≡ false = not-true _ first.0 in
      rw off (pass_earlier es later entry first.1 on allow)

  pub test-from_EntriesAllow : (entries : List EntryModel)
      → EntriesAllow entries caller standing bit → entries_allow entries caller standing bit ≡ true
  test-from_EntriesAllow entries a =
      rw a.stands (pass_earlier a.earlier a.later a.entry a.first a.applying a.allow)
