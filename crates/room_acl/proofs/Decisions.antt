-- The decision of a list, and its mask of allowed rights, in the standard's words.
use Rattle.room_acl.proofs.Common.{◌≡◌, ℕ, ◌^◌, ◌<◌, refl, ap, sym, ◌∙◌, arith, Bool, true, false, List, Option, Some}
use Rattle.room_acl.proofs.Common.{None, inl, inr, ◌&&◌, ◌↔◌, not, IsTrue, common_steps, and_parts, cases_lt, or_cases}
use Rattle.room_acl.proofs.Common.{or_left, or_right, Standing, Allowed, Denied, all_rights, has_bit, named_bits}
use Rattle.room_acl.proofs.Common.{IsMask, SubjectModel, EntryModel, allows_bit, entries_allow, owner_may, allowed_mask}
use Rattle.room_acl.proofs.Common.{refused_bit, decision, decision_by, AllowsBit, AllowsMask, IsLowestRefused}
use Rattle.room_acl.specs.declared.access.Decision.{Decision}
use Rattle.room_acl.proofs.BitTests.{has_bit-mask_of, wanted_is_named}
use Rattle.room_acl.proofs.FirstEntry.{EntriesAllow-from_test, test-from_EntriesAllow}
use Rattle.room_acl.proofs.Lowest.{found_passes, none_passes, lower_fails}

-- a wanted bit that is not refused is allowed
allowed_if : (w a : Bool) → w ≡ true → (w && not a) ≡ false → a ≡ true
allowed_if w a wanted not_refused = grind (arith, common_steps)

refused_parts : (w a : Bool) → (w && not a) ≡ true → (w ≡ true) × (a ≡ false)
refused_parts w a refused = grind (arith, common_steps)

allowed-none : (o : Option ℕ) → decision_by o ≡ Allowed → o ≡ None
allowed-none o is = grind (arith, common_steps)

denied-some : (o : Option ℕ) (refused : ℕ) → decision_by o ≡ Denied refused
    → (bit : ℕ) × ((o ≡ Some bit) × (refused ≡ 2 ^ bit))
denied-some None refused is = let no : Allowed ≡ Denied refused = is in cc
denied-some (Some bit) refused is =
    let same : Denied (2 ^ bit) ≡ Denied refused = is in
    let value : refused ≡ 2 ^ bit = cc in
    (bit, (refl, value))

abbrev refuses : List EntryModel → SubjectModel → Standing → ℕ → ℕ → Bool
refuses entries caller standing wanted bit = has_bit wanted bit && not (allows_bit entries caller standing bit)

module _ (entries : List EntryModel) (caller : SubjectModel) (standing : Standing) where
  allows-from_test : (bit : ℕ) → allows_bit entries caller standing bit ≡ true → AllowsBit entries caller standing bit
  allows-from_test bit is =
      elim (or_cases (owner_may caller standing bit) (entries_allow entries caller standing bit) is) [
        | inl owners ↦ inl owners
        | inr entries_do ↦ inr (EntriesAllow-from_test caller standing bit entries entries_do)
      ]

  test-from_allows : (bit : ℕ) → AllowsBit entries caller standing bit → allows_bit entries caller standing bit ≡ true
  test-from_allows bit (inl owners) = or_left (owner_may caller standing bit) _ owners
  test-from_allows bit (inr entries_do) =
      or_right (owner_may caller standing bit) _ (test-from_EntriesAllow caller standing bit entries entries_do)

  pub has_bit-allowed_mask : (bit : ℕ) → IsTrue (has_bit (allowed_mask entries caller standing) bit)
      ↔ (IsTrue (has_bit all_rights bit) × AllowsBit entries caller standing bit)
  has_bit-allowed_mask bit = (
    λ is. (let parts = and_parts (has_bit all_rights bit) (allows_bit entries caller standing bit)
        (sym (has_bit-mask_of (allows_bit entries caller standing) bit) ∙ is) in (
          parts.0,
          allows-from_test bit parts.1,
        )),
    λ is. has_bit-mask_of (allows_bit entries caller standing) bit
        ∙ ap (λ b. b && allows_bit entries caller standing bit) is.0 ∙ test-from_allows bit is.1,
  )

  module _ (wanted : ℕ) (mask : IsMask wanted) where
    -- where no bit is refused, each wanted one is allowed
    none_refused : refused_bit entries caller standing wanted ≡ None → AllowsMask entries caller standing wanted
    none_refused none bit wants =
        allows-from_test bit (allowed_if (has_bit wanted bit) (allows_bit entries caller standing bit) wants
        (none_passes (refuses entries caller standing wanted) named_bits
        bit none (wanted_is_named wanted bit mask wants)))

    refused_is : (bit : ℕ) → refused_bit entries caller standing wanted ≡ Some bit
        → (has_bit wanted bit ≡ true) × (allows_bit entries caller standing bit ≡ false)
    refused_is bit found = refused_parts (has_bit wanted bit) (allows_bit entries caller standing bit)
        (found_passes (refuses entries caller standing wanted) named_bits bit found)

    decides_allowed : (o : Option ℕ) → refused_bit entries caller standing wanted ≡ o
        → AllowsMask entries caller standing wanted → decision_by o ≡ Allowed
    decides_allowed None found all = refl
    decides_allowed (Some bit) found all =
        let parts = refused_is bit found in
        let no : true ≡ false = sym (test-from_allows bit (all bit parts.0)) ∙ parts.1 in
        cc

    pub decision-allowed : (decision entries caller standing wanted ≡ Allowed)
        ↔ AllowsMask entries caller standing wanted
    decision-allowed = (λ is. none_refused (allowed-none _ is), λ all. decides_allowed _ refl all)

    lower_allowed : (bit lower : ℕ) → refused_bit entries caller standing wanted ≡ Some bit
        → lower < bit → has_bit wanted lower ≡ true → AllowsBit entries caller standing lower
    lower_allowed bit lower found below wants =
        allows-from_test lower (allowed_if (has_bit wanted lower) (allows_bit entries caller standing lower) wants
        (lower_fails (refuses entries caller standing wanted) 0 named_bits bit
        lower refl found below (wanted_is_named wanted lower mask wants)))

    some_refused : (bit refused : ℕ) → refused_bit entries caller standing wanted ≡ Some bit
        → refused ≡ 2 ^ bit → IsLowestRefused entries caller standing wanted refused
    some_refused bit refused found value =
        let parts = refused_is bit found in
        record {
          bit = bit;
          value = value;
          is_wanted = parts.0;
          not_allowed = λ allowed. (let no : true ≡ false = sym (test-from_allows bit allowed) ∙ parts.1 in cc);
          lowest = λ lower below wants. lower_allowed bit lower found below wants;
        }

    decides_denied : (refused : ℕ) → IsLowestRefused entries caller standing wanted refused
        → (o : Option ℕ) → refused_bit entries caller standing wanted ≡ o → decision_by o ≡ Denied refused
    decides_denied refused low None found = absurd (low.not_allowed (none_refused found low.bit low.is_wanted))
    decides_denied refused low (Some bit) found =
        elim (cases_lt bit low.bit) [
          | inl below ↦ (let parts = refused_is bit found in
              let no : true ≡ false = sym (test-from_allows bit (low.lowest bit below parts.0)) ∙ parts.1 in cc)
          | inr up ↦ elim (cases_lt low.bit bit) [
            | inl below ↦ absurd (low.not_allowed (lower_allowed bit low.bit found below low.is_wanted))
            | inr down ↦
                (let same : bit ≡ low.bit = omega arith in ap (λ b. Denied (2 ^ b)) same ∙ ap Denied (sym low.value))
          ]
        ]

    pub decision-denied : (refused : ℕ) → (decision entries caller standing wanted ≡ Denied refused)
        ↔ IsLowestRefused entries caller standing wanted refused
    decision-denied refused = (
      λ is. (let some = denied-some _ refused is in some_refused some.0 refused some.1.0 some.1.1),
      λ low. decides_denied refused low _ refl,
    )

module _ (entries : List EntryModel) (caller : SubjectModel)
    (standing : Standing) (wanted : ℕ) (result : Decision) where
  pub allowed_in_words : result ≡ decision entries caller standing wanted
      → IsMask wanted → (result ≡ Allowed) ↔ AllowsMask entries caller standing wanted
  allowed_in_words is mask =
      let words = decision-allowed entries caller standing wanted mask in
      (λ allowed. words.0 (sym is ∙ allowed), λ all. is ∙ words.1 all)

  pub denied_in_words : result ≡ decision entries caller standing wanted → IsMask wanted → (refused : ℕ)
      → (result ≡ Denied refused) ↔ IsLowestRefused entries caller standing wanted refused
  denied_in_words is mask refused =
      let words = decision-denied entries caller standing wanted mask refused in
      (λ denied. words.0 (sym is ∙ denied), λ low. is ∙ words.1 low)

-- the same of a mask
pub rights_in_words : (entries : List EntryModel) (caller : SubjectModel) (standing : Standing) (result : ℕ)
    → result ≡ allowed_mask entries caller standing
    → (bit : ℕ) → IsTrue (has_bit result bit)
    ↔ (IsTrue (has_bit all_rights bit) × AllowsBit entries caller standing bit)
rights_in_words entries caller standing result is bit =
    let words = has_bit-allowed_mask entries caller standing bit in
    (λ has. words.0 (ap (λ n. has_bit n bit) (sym is) ∙ has), λ both. ap (λ n. has_bit n bit) is ∙ words.1 both)
