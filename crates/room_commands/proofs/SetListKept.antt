-- Own entries that SETLIST leaves have no mark.
use Rattle.room_commands.proofs.Common.{◌≡◌, ℕ, ◌-◌, ◌*◌, ◌/◌, ◌%◌, refl, ap, ◌∙◌, arith, Bool, true, false, not, inl}
use Rattle.room_commands.proofs.Common.{inr, List, [], ◌∷◌, bit_and, ◌==◌, ◌&&◌, filter_map, list_all, cases_Bool}
use Rattle.room_commands.proofs.Common.{inherited_flag, is_inherited, without_inherited, EntryModel, Path, follows_at}
use Rattle.room_commands.proofs.Common.{kept_entry, own_entries_of_setlist}
use Rattle.std.proofs.lemmas.Nat.Bits.{and_pow}
use Rattle.room_acl.proofs.BitTests.{bit_cases}

abbrev no_mark : EntryModel → Bool
no_mark entry = not (is_inherited entry.flags)

mark_cleared : (flags : ℕ) → is_inherited (without_inherited flags) ≡ false
mark_cleared flags = elim (bit_cases flags 7) [
  | inl clear ↦
      let none : bit_and flags inherited_flag ≡ 0 = and_pow flags 7 ∙ ap (λ b. b * 128) clear in
      let same : without_inherited flags ≡ flags = omega (arith, none) in
      ap is_inherited same ∙ ap (λ n. n == inherited_flag) none
  | inr set ↦
      let all : bit_and flags inherited_flag ≡ 128 = and_pow flags 7 ∙ ap (λ b. b * 128) set in
      let bit : (flags - 128) / 128 % 2 ≡ 0 = omega (arith, set) in
      ap (λ n. is_inherited (flags - n)) all
      ∙ ap (λ n. n == inherited_flag) (and_pow (flags - 128) 7 ∙ ap (λ b. b * 128) bit)
]

all_kept : (follows : Bool) (sent : List EntryModel) → list_all no_mark (filter_map (kept_entry follows) sent) ≡ true
all_kept follows [] = refl
all_kept follows (entry ∷ sent) = elim (cases_Bool (follows && is_inherited entry.flags)) [
  | inl dropped ↦ rw dropped (all_kept follows sent)
  | inr kept ↦ rw (kept, mark_cleared entry.flags) (all_kept follows sent)
]

pub no_mark_left : (path : Path) (aclflag : ℕ) (sent : List EntryModel) →
    list_all (λ (entry : EntryModel). not (is_inherited entry.flags)) (own_entries_of_setlist path aclflag sent) ≡ true
no_mark_left path aclflag sent = all_kept (follows_at path aclflag) sent
