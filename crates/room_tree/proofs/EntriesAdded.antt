-- Changes that go on with some that put entries.
use Rattle.room_tree.proofs.Common.{◌≡◌, ℕ, refl, ap, sym, ◌∙◌, true, List, [], ◌∷◌, ◌++◌, append-nil, append_assoc}
use Rattle.room_tree.proofs.Common.{Vec, Global, EntryModel, Change, PutEntries, all_append, AddsEntries, puts_entries}

-- with none
pub adds_none : (old new : List Change) → new ≡ old → AddsEntries old new
adds_none old new same = record { added = []; goes_on = same ∙ sym (append-nil old); entries = tt }

-- with some and then others
pub adds_more : (old between new : List Change) → AddsEntries old between → AddsEntries between new
    → AddsEntries old new
adds_more old between new first then = record {
  added = first.added ++ then.added;
  goes_on = then.goes_on ∙ ap (λ l. l ++ then.added) first.goes_on ∙ append_assoc old first.added then.added;
  entries = all_append (λ (change : Change). puts_entries change ≡ true) first.added then.added
      first.entries then.entries;
}

-- with those of one object
pub adds_one : (old new : List Change) (id : ℕ) (entries : Vec EntryModel Global)
    → new ≡ old ++ PutEntries id entries ∷ [] → AddsEntries old new
adds_one old new id entries is = record { added = PutEntries id entries ∷ []; goes_on = is; entries = (refl, tt) }
