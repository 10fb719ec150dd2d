-- The texts of whom entries name: their bytes, and whom they are read back as.
use Rattle.room_acl.proofs.Common.{◌≡◌, ◌<◌, ◌∙◌, ℕ, Bool, true, false, List, [], ◌∷◌, length, cond, refl, sym, ap}
use Rattle.room_acl.proofs.Common.{arith, IsTrue, IsUtf8, not, nat_le, nat_lt, ◌&&◌, list_all, and_parts, ltb-true}
use Rattle.room_acl.proofs.Common.{false_from_ne_true, true≢false, Who, Owner, Group, Everyone, User, Members}
use Rattle.room_acl.proofs.Common.{identifier_group, IsWho, names_its_kind, who_of, who_text, owner_text, group_text}
use Rattle.room_acl.proofs.Common.{everyone_text}
use Rattle.std.specs.Str.{IsAscii, bytes_eq}
use Rattle.std.proofs.lemmas.Bool.Decides.{nat_tests}
use Rattle.std.proofs.lemmas.Slice.Eq.{bytes_eq-Decides}
use Rattle.std.proofs.lemmas.Str.{IsUtf8-from_ascii}
use Rattle.std.proofs.lemmas.Str.Ascii.{IsAscii-nil, IsAscii-cons}
use Rattle.room_acl.specs.Principals.{IsPrincipal, is_principal_byte, max_principal_bytes}

-- the bytes of a principal are its own
principal_bytes : (text : List ℕ) → IsPrincipal text → list_all is_principal_byte text ≡ true
principal_bytes text h =
    let long = and_parts (nat_le 1 (length text))
    (nat_le (length text) max_principal_bytes && list_all is_principal_byte text) h in
    (and_parts (nat_le (length text) max_principal_bytes) (list_all is_principal_byte text) long.1).1

all_ascii : (test : ℕ → Bool) → ((b : ℕ) → test b ≡ true → b < 128)
    → (text : List ℕ) → list_all test text ≡ true → IsAscii text
all_ascii test low [] h = IsAscii-nil
all_ascii test low (b ∷ text) h =
    let parts = and_parts (test b) (list_all test text) h in
    IsAscii-cons b text (low b parts.0) (all_ascii test low text parts.1)

byte_ascii : (b : ℕ) → is_principal_byte b ≡ true → b < 128
byte_ascii b h = grind (arith, nat_tests)

pub principal_utf8 : (text : List ℕ) → IsPrincipal text → IsUtf8 text
principal_utf8 text h =
    IsUtf8-from_ascii text (all_ascii is_principal_byte byte_ascii text (principal_bytes text h))

special_utf8 : (text : List ℕ) → list_all (λ b. nat_lt b 128) text ≡ true → IsUtf8 text
special_utf8 text h = IsUtf8-from_ascii text (all_ascii (λ b. nat_lt b 128) (λ b low. ltb-true b 128 low) text h)

pub who_utf8 : (who : Who) → IsWho who → IsUtf8 (who_text who)
who_utf8 Owner h = special_utf8 owner_text refl
who_utf8 Group h = special_utf8 group_text refl
who_utf8 Everyone h = special_utf8 everyone_text refl
who_utf8 (User name) h = principal_utf8 name h
who_utf8 (Members name) h = principal_utf8 name h

-- a principal has none of the three special names
no_special : (name special : List ℕ) → list_all is_principal_byte special ≡ false
    → IsPrincipal name → bytes_eq name special ≡ false
no_special name special bad h =
    false_from_ne_true _ (λ e.
    true≢false (sym (principal_bytes name h)
    ∙ ap (list_all is_principal_byte) ((bytes_eq-Decides name special).0 e) ∙ bad))

named : (flags : ℕ) (name : List ℕ) → IsPrincipal name
    → who_of flags name ≡ cond (identifier_group flags) (Members name) (User name)
named flags name h =
    (λ i. cond (no_special name owner_text refl h i) Owner
    (cond (no_special name group_text refl h i) Group
    (cond (no_special name everyone_text refl h i) Everyone
    (cond (identifier_group flags) (Members name) (User name)))))

not_true : (b : Bool) → IsTrue (not b) → b ≡ false
not_true true h = absurd cc
not_true false h = refl

-- the text is read back as whom it stands for
pub who_back : (flags : ℕ) (who : Who) → IsWho who
    → IsTrue (names_its_kind flags who) → who_of flags (who_text who) ≡ who
who_back flags Owner h kind = refl
who_back flags Group h kind = refl
who_back flags Everyone h kind = refl
who_back flags (User name) h kind = named flags name h ∙ ap (λ b. cond b (Members name) (User name)) (not_true _ kind)
who_back flags (Members name) h kind = named flags name h ∙ ap (λ b. cond b (Members name) (User name)) kind

-- and the flags tell rightly whether that is a user or a group
pub who_of_kind : (flags : ℕ) (text : List ℕ) → IsTrue (names_its_kind flags (who_of flags text))
who_of_kind flags text = by_tests (bytes_eq text owner_text) (bytes_eq text group_text)
    (bytes_eq text everyone_text) (identifier_group flags) refl
  where
    by_tests : (owner group everyone member : Bool) → identifier_group flags ≡ member
        → IsTrue (names_its_kind flags (cond owner Owner (cond group Group
        (cond everyone Everyone (cond member (Members text) (User text))))))
    by_tests true group everyone member is = refl
    by_tests false true everyone member is = refl
    by_tests false false true member is = refl
    by_tests false false false true is = is
    by_tests false false false false is = ap not is
