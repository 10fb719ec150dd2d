-- What changes leave is still true.
use Rattle.room_cache.proofs.Common.{◌≡◌, ℕ, refl, ap, ◌∙◌, sym, subst, List, [], ◌∷◌, Option, None, Some, IfSome}
use Rattle.room_cache.proofs.Common.{IsSome, true, false, Change, ObjectRecords, Records, Leave, Untouched}
use Rattle.room_cache.proofs.Common.{apply_change, Known, IsTrueOf, IsDecidedBy, IsLeft, AreKept, IsKept, row_at}
use Rattle.room_cache.proofs.Common.{nat_cmp, Name, name_cmp, slot_cmp}
use Rattle.room_acl.specs.Entries.{EntryModel}
use Rattle.room_slots.specs.KeptModel.{KeptModel}

for_some : {X : Type 0} (P : X → Type 0) (o : Option X) → ((x : X) → o ≡ Some x → P x) → IfSome o P
for_some P None each = tt
for_some P (Some x) each = each x refl

at_some : {X : Type 0} (P : X → Type 0) (o : Option X) (x : X) → o ≡ Some x → IfSome o P → P x
at_some {X} P o x is h = let Q : Option X → Type 0 = λ q. IfSome q P in subst Q is h

pub none_some : {X : Type 0} (o : Option X) (x : X) → o ≡ None → o ≡ Some x → ⊥
none_some {X} o x none is =
    let P : Option X → Type 0 = λ p. IsSome p in
    let f : false ≡ true = subst P none (subst P (sym is) refl) in cc

pub left_itself : (known : Known) → IsLeft [] known known
left_itself known = record {
  sessions = λ sid row held. (held, tt);
  nodes = λ id node held. (held, tt);
  lists = λ id list held. (held, tt);
  decisions = λ id made held. (held, tt);
  slots = λ r are. are;
  next = for_some _ known.next (λ next held. (held, tt));
}

-- a change that leaves all but slots, and what is remembered of them
pub others_left : (change : Change) (old new : Known) → new ≡ record old { slots = new.slots }
    → ((r : Records) → AreKept r old.slots → AreKept (apply_change change r) new.slots)
    → ((r : Records) → (apply_change change r).session ≡ r.session)
    → ((r : Records) → (apply_change change r).objects ≡ r.objects) → IsLeft (change ∷ []) old new
others_left change old new same slots sessions objects =
    let same_node : (id : ℕ) (r : Records) → (apply_change change r).objects.node id ≡ r.objects.node id =
    λ id r. ap (λ (t : ObjectRecords). t.node id) (objects r) in
    let same_entries : (id : ℕ) (r : Records) → (apply_change change r).objects.entries id ≡ r.objects.entries id =
    λ id r. ap (λ (t : ObjectRecords). t.entries id) (objects r) in
    record {
      sessions = λ sid row held. (
        sym (ap (λ (k : Known). row_at name_cmp k.sessions sid) same) ∙ held,
        ((λ r. ap (λ f. f sid) (sessions r)), tt),
      );
      nodes = λ id node held. (sym (ap (λ (k : Known). row_at nat_cmp k.nodes id) same) ∙ held, (same_node id, tt));
      lists = λ id list held. (sym (ap (λ (k : Known). row_at nat_cmp k.lists id) same) ∙ held, (same_entries id, tt));
      decisions = λ id made held.
          (sym (ap (λ (k : Known). row_at nat_cmp k.decisions id) same) ∙ held, (same_entries id, tt));
      slots = slots;
      next = for_some _ new.next (λ next held.
          (sym (ap (λ (k : Known). k.next) same) ∙ held, ((λ r. ap (λ (t : ObjectRecords). t.next) (objects r)), tt)));
    }

-- nothing is remembered
pub nothing_true : (r : Records) (known : Known) → ((k : List ℕ) → row_at name_cmp known.sessions k ≡ None)
    → ((k : ℕ) → row_at nat_cmp known.nodes k ≡ None) → ((k : ℕ) → row_at nat_cmp known.lists k ≡ None)
    → ((k : ℕ) → row_at nat_cmp known.decisions k ≡ None) → ((k : Name × ℕ) → row_at slot_cmp known.slots k ≡ None)
    → known.next ≡ None → IsTrueOf known r
nothing_true r known sessions nodes lists decisions slots next = record {
  sessions = λ sid row held. absurd (none_some _ row (sessions sid) held);
  nodes = λ id node held. absurd (none_some _ node (nodes id) held);
  lists = λ id list held. absurd (none_some _ list (lists id) held);
  decisions = λ id made held d in_made. absurd (none_some _ made (decisions id) held);
  slots = λ sid slot fact held. absurd (none_some _ fact (slots (sid, slot)) held);
  next = subst (λ (o : Option ℕ). IfSome o (λ n. r.objects.next ≡ n)) (sym next) tt;
}

-- one change, and then the others
pub left_in_turn : (change : Change) (changes : List Change) (old mid new : Known)
    → IsLeft (change ∷ []) old mid → IsLeft changes mid new → IsLeft (change ∷ changes) old new
left_in_turn change changes old mid new first rest = record {
  sessions = λ sid row held.
      let later = rest.sessions sid row held in
      let sooner = first.sessions sid row later.0 in (sooner.0, (sooner.1.0, later.1));
  nodes = λ id node held.
      let later = rest.nodes id node held in
      let sooner = first.nodes id node later.0 in (sooner.0, (sooner.1.0, later.1));
  lists = λ id list held.
      let later = rest.lists id list held in
      let sooner = first.lists id list later.0 in (sooner.0, (sooner.1.0, later.1));
  decisions = λ id made held.
      let later = rest.decisions id made held in
      let sooner = first.decisions id made later.0 in (sooner.0, (sooner.1.0, later.1));
  slots = λ r are. rest.slots (apply_change change r) (first.slots r are);
  next = for_some _ new.next (λ next held.
      let later = at_some (λ (n : ℕ). (mid.next ≡ Some n) × Leave (λ r. r.objects.next) changes)
      new.next next held rest.next in
      let sooner = at_some (λ (n : ℕ). (old.next ≡ Some n) × Leave (λ r. r.objects.next) (change ∷ []))
      mid.next next later.0 first.next in (sooner.0, (sooner.1.0, later.1)));
}

-- what changes leave is what the records are after them
pub left_true : (changes : List Change) (known left : Known) (old new : Records)
    → IsLeft changes known left → Untouched changes old new → IsTrueOf known old → IsTrueOf left new
left_true changes known left old new is stay true_of = record {
  sessions = λ sid row held.
      let was = is.sessions sid row held in stay.session sid was.1 ∙ true_of.sessions sid row was.0;
  nodes = λ id node held. let was = is.nodes id node held in stay.node id was.1 ∙ true_of.nodes id node was.0;
  lists = λ id list held. let was = is.lists id list held in stay.entries id was.1 ∙ true_of.lists id list was.0;
  decisions = λ id made held d in_made.
      let was = is.decisions id made held in
      let P : List EntryModel → Type 0 = λ entries. IsDecidedBy entries d in
      subst P (sym (stay.entries id was.1)) (true_of.decisions id made was.0 d in_made);
  slots = λ sid slot fact held.
      let is_now = is.slots old true_of.slots sid slot fact held in
      let P : Option KeptModel → Type 0 = λ kept. IsKept fact kept in
      (is_now.0, subst P (sym (stay.kept sid slot is_now.0)) is_now.1);
  next = for_some _ left.next (λ next held.
      let was = at_some (λ (n : ℕ). (known.next ≡ Some n) × Leave (λ r. r.objects.next) changes)
      left.next next held is.next in
      stay.next was.1 ∙ at_some (λ (n : ℕ). old.objects.next ≡ n) known.next next was.0 true_of.next);
}
