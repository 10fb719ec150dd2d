-- One entry of a list, as a walk over the list takes it.
use Rattle.room_acl.proofs.Common.{◌≡◌, ℕ, ◌+◌, ◌*◌, ◌%◌, ◌^◌, ◌<◌, ◌≤◌, refl, ap, sym, ◌∙◌, Bool, true, false, arith}
use Rattle.room_acl.proofs.Common.{inl, inr, List, [], ◌∷◌, drop, length, get_or, Some, not, ◌&&◌, ◌||◌, cond, bit_and}
use Rattle.room_acl.proofs.Common.{bit_or, bit_xor, nat_lt, find, eq-eqb, eqb-true, ltb-true, agree_below_at}
use Rattle.room_acl.proofs.Common.{cases_Bool, common_steps, one_shl, Standing, all_rights, has_bit, named_bits, IsMask}
use Rattle.room_acl.proofs.Common.{SubjectModel, EntryModel, entries_allow, allows_bit, owner_may, applies, decides}
use Rattle.room_acl.proofs.Common.{decision_by, Denied}
use Rattle.std.proofs.lemmas.List.{at_drop_more, drop_more, drop_all}
use Rattle.std.proofs.Math.Bool.{and-true}
use Rattle.room_acl.specs.Pending.{PendingModel, refuses_with}
use Rattle.room_acl.proofs.BitTests.{has_bit-none, has_bit-or, has_bit-and, has_bit-without, same_bits}

-- an applying entry decides the bits that it names
pub entries_allow-first : (entry : EntryModel) (rest : List EntryModel)
    (caller : SubjectModel) (standing : Standing) (bit : ℕ) →
    entries_allow (entry ∷ rest) caller standing bit ≡ cond (applies caller standing entry && has_bit entry.mask bit)
    entry.allow (entries_allow rest caller standing bit)
entries_allow-first entry rest caller standing bit =
    elim (cases_Bool (decides caller standing bit entry)) [ inl on ↦ rw on refl | inr off ↦ rw off refl ]

pub allow_step : (d l m a : Bool) → (d || (l && not (cond m true a))) ≡ (d || ((l && not m) && not a))
allow_step d l m a = grind (arith, common_steps)

pub deny_step : (d l m a : Bool) → (d || (l && not (cond m false a))) ≡ ((d || (l && m)) || ((l && not m) && not a))
deny_step d l m a = grind (arith, common_steps)

-- one entry taken, where this list is still to come
module _ (entry : EntryModel) (rest : List EntryModel)
    (caller : SubjectModel) (standing : Standing) (left denied bit : ℕ) where
  pub bit_passed : applies caller standing entry ≡ false
      → refuses_with rest caller standing (record { left = left; denied = denied }) bit
      ≡ refuses_with (entry ∷ rest) caller standing (record { left = left; denied = denied }) bit
  bit_passed off = rw off refl

  pub bit_allowed : applies caller standing entry ≡ true → entry.allow ≡ true
      → refuses_with rest caller standing
      (record { left = bit_xor left (bit_and left entry.mask); denied = denied }) bit
      ≡ refuses_with (entry ∷ rest) caller standing (record { left = left; denied = denied }) bit
  bit_allowed on allow =
      rw (has_bit-without left entry.mask bit, entries_allow-first entry rest caller standing bit, on, allow)
      (sym (allow_step (has_bit denied bit) (has_bit left bit) (has_bit entry.mask bit) _))

  pub bit_denied : applies caller standing entry ≡ true → entry.allow ≡ false
      → refuses_with rest caller standing (record {
        left = bit_xor left (bit_and left entry.mask);
        denied = bit_or denied (bit_and left entry.mask);
      }) bit
      ≡ refuses_with (entry ∷ rest) caller standing (record { left = left; denied = denied }) bit
  bit_denied on deny =
      rw (
        has_bit-or denied (bit_and left entry.mask) bit,
        has_bit-and left entry.mask bit,
        has_bit-without left entry.mask bit,
        entries_allow-first entry rest caller standing bit,
        on,
        deny,
      )
      (sym (deny_step (has_bit denied bit) (has_bit left bit) (has_bit entry.mask bit) _))

-- what an entry leaves
module _ (entry : EntryModel) (caller : SubjectModel) (standing : Standing) (left bit : ℕ) where
  pub left_passed : applies caller standing entry ≡ false
      → has_bit left bit ≡ (has_bit left bit && not (decides caller standing bit entry))
  left_passed off = rw off (sym (and-true (has_bit left bit)))

  pub left_taken : applies caller standing entry ≡ true → has_bit (bit_xor left (bit_and left entry.mask)) bit
      ≡ (has_bit left bit && not (decides caller standing bit entry))
  left_taken on = rw (has_bit-without left entry.mask bit, on) refl

within : (l u m : Bool) → (l && u) ≡ l → ((l && not m) && u) ≡ (l && not m)
within l u m h = grind (arith, common_steps)

pub IsMask-without : (left mask : ℕ) → IsMask left → IsMask (bit_xor left (bit_and left mask))
IsMask-without left mask lawful = eq-eqb _ _ (same_bits _ _ (λ bit.
    has_bit-and (bit_xor left (bit_and left mask)) all_rights bit
    ∙ ap (λ b. b && has_bit all_rights bit) (has_bit-without left mask bit)
    ∙ within (has_bit left bit) (has_bit all_rights bit) (has_bit mask bit)
    (sym (has_bit-and left all_rights bit) ∙ ap (λ n. has_bit n bit) (eqb-true _ _ lawful))
    ∙ sym (has_bit-without left mask bit)))

-- two decisions agree that refuse the same bits
pub same_decision : (a b : ℕ → Bool) → ((bit : ℕ) → a bit ≡ b bit)
    → decision_by (find a named_bits) ≡ decision_by (find b named_bits)
same_decision a b same = λ i. decision_by (find (λ bit. same bit i) named_bits)

-- where no more entries come, what is denied or left is refused
pub refused_at_end : (left denied : ℕ) (caller : SubjectModel) (standing : Standing) (bit : ℕ) →
    has_bit (bit_or denied left) bit ≡ refuses_with [] caller standing (record { left = left; denied = denied }) bit
refused_at_end left denied caller standing bit =
    has_bit-or denied left bit ∙ ap (λ l. has_bit denied bit || l) (sym (and-true (has_bit left bit)))

-- the owner's rights are taken out before the first entry, and the entries decide the others
without_owners : (w o e : Bool) → ((w && not o) && not e) ≡ (w && not (o || e))
without_owners w o e = grind (arith, common_steps)

pub refused_at_start : (entries : List EntryModel) (caller : SubjectModel)
    (standing : Standing) (wanted left bit : ℕ) →
    has_bit left bit ≡ (has_bit wanted bit && not (owner_may caller standing bit))
    → refuses_with entries caller standing (record { left = left; denied = 0 }) bit
    ≡ (has_bit wanted bit && not (allows_bit entries caller standing bit))
refused_at_start entries caller standing wanted left bit is =
    rw (has_bit-none bit, is)
    (without_owners (has_bit wanted bit) (owner_may caller standing bit) (entries_allow entries caller standing bit))

-- the pending decision with the rest of the list to come refuses what the whole list refuses
pub record Walked (entries rest : List EntryModel) (caller : SubjectModel)
    (standing : Standing) (wanted : ℕ) (pending : PendingModel) : Type 0 where
  pub at : (bit : ℕ) → refuses_with rest caller standing pending bit
      ≡ (has_bit wanted bit && not (allows_bit entries caller standing bit))

-- the next entry stands at the front of what is left
pub walked_on : (entries : List EntryModel) (i : ℕ) (entry : EntryModel)
    (caller : SubjectModel) (standing : Standing) (wanted : ℕ) (old new : PendingModel) →
    i < length entries → entry ≡ get_or entries i entry
    → ((rest : List EntryModel) (bit : ℕ)
    → refuses_with rest caller standing new bit ≡ refuses_with (entry ∷ rest) caller standing old bit)
    → Walked entries (drop i entries) caller standing wanted old
    → Walked entries (drop (i + 1) entries) caller standing wanted new
walked_on entries i entry caller standing wanted old new below is taken w =
    let front : drop i entries ≡ entry ∷ drop (i + 1) entries =
    drop_more entries i entry below ∙ ap (λ e. e ∷ drop (i + 1) entries) (sym is) in
    record { at = λ bit. taken (drop (i + 1) entries) bit ∙ rw front at (w.at bit) }

pub walked_all : (entries : List EntryModel) (i : ℕ) (caller : SubjectModel)
    (standing : Standing) (wanted : ℕ) (pending : PendingModel) →
    length entries ≤ i → Walked entries (drop i entries) caller standing wanted pending
    → (bit : ℕ) → refuses_with [] caller standing pending bit
    ≡ (has_bit wanted bit && not (allows_bit entries caller standing bit))
walked_all entries i caller standing wanted pending all w bit =
    ap (λ rest. refuses_with rest caller standing pending bit) (sym (drop_all i entries all)) ∙ w.at bit

-- the place at i of the named bits is found first
pub found_at : (refused i : ℕ) → i < 16 → has_bit refused (get_or named_bits i 0) ≡ true
    → find (has_bit refused) (drop i named_bits) ≡ find (has_bit refused) named_bits
    → Denied (1 * 2 ^ get_or named_bits i 0 % 4294967296) ≡ decision_by (find (has_bit refused) named_bits)
found_at refused i below is so_far =
    let place = get_or named_bits i 0 in
    let small : place < 32 =
    ltb-true place 32 (agree_below_at (λ k. nat_lt (get_or named_bits k 0) 32) (λ k. true) 16 i refl below) in
    ap Denied (one_shl place 32 small)
    ∙ ap decision_by (sym (ap (λ b. cond b (Some place) (find (has_bit refused) (drop (i + 1) named_bits))) is)
    ∙ sym (at_drop_more (find (has_bit refused)) named_bits i 0 below) ∙ so_far)

pub not_found_at : (refused i : ℕ) → i < 16 → has_bit refused (get_or named_bits i 0) ≡ false
    → find (has_bit refused) (drop i named_bits) ≡ find (has_bit refused) named_bits
    → find (has_bit refused) (drop (i + 1) named_bits) ≡ find (has_bit refused) named_bits
not_found_at refused i below is so_far =
    let place = get_or named_bits i 0 in
    sym (ap (λ b. cond b (Some place) (find (has_bit refused) (drop (i + 1) named_bits))) is)
    ∙ sym (at_drop_more (find (has_bit refused)) named_bits i 0 below) ∙ so_far
