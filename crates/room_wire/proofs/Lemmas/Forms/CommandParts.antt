-- What is written for a lawful part of a command is read as that part.
use Rattle.room_wire.proofs.Common.{◌≡◌, ◌<◌, ◌^◌, ℕ, Bool, true, false, List, [], ◌∷◌, cond, refl, ap, ◌∙◌, arith}
use Rattle.room_wire.proofs.Common.{None, Some, IsTrue, bit_and, option_map, option_and_then, AllByRecursion}
use Rattle.room_wire.proofs.Common.{option_zip, eqb-true, leb-true, as_number, as_u64, EntryModel, names_its_kind}
use Rattle.room_wire.proofs.Common.{is_who, type_of, who_back, Path, IsPath, path_text, IsWho, IsEntry, who_text, num}
use Rattle.room_wire.proofs.Common.{entry, entries, flags_from, mask_from, allow_from, principal_from, who_from}
use Rattle.room_wire.proofs.Common.{entry_from, entry_in, all_among, path_from, list_flags_from}
use Rattle.std.proofs.lemmas.Nat.{and_le_r}
use Rattle.room_acl.specs.declared.who.Who.{Who}
use Rattle.room_acl.specs.Bits.{IsFlags, IsListFlags, IsMask, all_list_flags}
use Rattle.room_acl.specs.Principals.{IsPrincipal}
use Rattle.room_wire.proofs.Lemmas.Forms.CommandPaths.{path_of_text}

pub path_back : (path : Path) → IsPath path → path_from (path_text path) ≡ Some path
path_back path h = path_of_text (path_text path) path h refl

pub list_flags_back : (n : ℕ) → IsListFlags n → list_flags_from n ≡ Some n
list_flags_back n h = ap (λ b. cond b (Some n) None) h

pub list_flags_small : (n : ℕ) → IsListFlags n → n < 256
list_flags_small n h = let most = leb-true n all_list_flags h in omega (arith, most)

pub flags_small : (n : ℕ) → IsFlags n → n < 256
flags_small n h = let same = eqb-true (bit_and n 0xCF) n h in let most = and_le_r n 0xCF in omega (arith, same, most)

pub mask_small : (n : ℕ) → IsMask n → n < 2 ^ 32
mask_small n h =
    let same = eqb-true (bit_and n 0x1F07FF) n h in let most = and_le_r n 0x1F07FF in omega (arith, same, most)

flags_back : (n : ℕ) → IsFlags n → flags_from n ≡ Some n
flags_back n h = ap (λ b. cond b (Some n) None) h

pub mask_back : (n : ℕ) → IsMask n → mask_from n ≡ Some n
mask_back n h = ap (λ b. cond b (Some n) None) h

pub principal_back : (text : List ℕ) → IsPrincipal text → principal_from text ≡ Some text
principal_back text h = ap (λ b. cond b (Some text) None) h

from_back : (flags : ℕ) (who : Who) → IsWho who
    → IsTrue (names_its_kind flags who) → who_from flags (who_text who) ≡ Some who
from_back flags who h kind =
    ap (λ whom. cond (is_who whom) (Some whom) None) (who_back flags who h kind) ∙ ap (λ b. cond b (Some who) None) h

allow_back : (b : Bool) → option_and_then allow_from (option_and_then as_u64 (as_number (num (type_of b)))) ≡ Some b
allow_back true = refl
allow_back false = refl

entry_back : (e : EntryModel) → IsEntry e → entry_in (entry e) ≡ Some e
entry_back e h =
    (λ i. option_and_then entry_from (option_zip (flags_back e.flags h.flags i)
    (option_zip (mask_back e.mask h.mask i) (option_zip (allow_back e.allow i) (Some (who_text e.who))))))
    ∙ ap (option_map (λ who. record { allow = e.allow; flags = e.flags; mask = e.mask; who = who }))
    (from_back e.flags e.who h.who h.kind)

pub entries_back : (es : List EntryModel) → AllByRecursion IsEntry es → all_among entry_in (entries es) ≡ Some es
entries_back [] h = refl
entries_back (e ∷ es) h =
    (λ i. option_map (λ (it : EntryModel × List EntryModel). it.0 ∷ it.1)
    (option_zip (entry_back e h.0 i) (entries_back es h.1 i)))
