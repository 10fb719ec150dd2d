-- What the owner's rule gives, and what it does not.
use Rattle.room_acl.proofs.Common.{◌≡◌, ℕ, refl, ap, ◌∙◌, Bool, true, false, List, not, ◌&&◌, ◌||◌, find, Standing}
use Rattle.room_acl.proofs.Common.{Allowed, has_bit, named_bits, mask_of, owner_rights, read_acl, write_acl}
use Rattle.room_acl.proofs.Common.{SubjectModel, EntryModel, allows_bit, allowed_mask, decision, decision_by}
use Rattle.room_acl.proofs.Common.{entries_allow, is_owner}

-- no bit at all: a bit that is not the owner's adds nothing
not_owners : (o a : Bool) → ((o && false) || a) ≡ a
not_owners true a = refl
not_owners false a = refl

module _ (entries : List EntryModel) (caller : SubjectModel) (standing : Standing) where
  -- the decision, where whether the caller is the owner is this
  abbrev decision_where : ℕ → Bool → ℕ → Bool
  decision_where wanted o bit =
      has_bit wanted bit && not ((o && has_bit owner_rights bit) || entries_allow entries caller standing bit)

  pub owner_reads : is_owner caller standing ≡ true → decision entries caller standing read_acl ≡ Allowed
  owner_reads is = ap (λ o. decision_by (find (decision_where read_acl o) named_bits)) is

  pub owner_writes : is_owner caller standing ≡ true → decision entries caller standing write_acl ≡ Allowed
  owner_writes is = ap (λ o. decision_by (find (decision_where write_acl o) named_bits)) is

  pub by_entries_alone : (bit : ℕ) → has_bit owner_rights bit ≡ false
      → allows_bit entries caller standing bit ≡ entries_allow entries caller standing bit
  by_entries_alone bit not_one =
      ap (λ b. (is_owner caller standing && b) || entries_allow entries caller standing bit) not_one
      ∙ not_owners (is_owner caller standing) (entries_allow entries caller standing bit)

  pub others_by_entries : (wanted : ℕ) → is_owner caller standing ≡ false → decision entries caller standing wanted
      ≡ decision_by (find (λ bit. has_bit wanted bit && not (entries_allow entries caller standing bit)) named_bits)
  others_by_entries wanted is = ap (λ o. decision_by (find (decision_where wanted o) named_bits)) is

  pub others_have : is_owner caller standing ≡ false
      → allowed_mask entries caller standing ≡ mask_of (entries_allow entries caller standing)
  others_have is =
      ap (λ o. mask_of (λ bit. (o && has_bit owner_rights bit) || entries_allow entries caller standing bit)) is
