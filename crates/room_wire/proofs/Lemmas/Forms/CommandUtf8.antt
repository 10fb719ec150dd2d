-- A value's text is UTF-8 where its strings are.
use Rattle.room_wire.proofs.Common.{◌<◌, ◌^◌, ℕ, Bool, true, false, List, [], ◌∷◌, refl, IsUtf8, decimal, IsUtf8-append}
use Rattle.room_wire.proofs.Common.{IsUtf8-nil, IsUtf8-from_ascii, quoted, Data, null, boolean, number, string, array}
use Rattle.room_wire.proofs.Common.{object, Items, no_items, item, Members, no_members, member, number_text, comma_if}
use Rattle.room_wire.proofs.Common.{compact_text, items_text, members_text}
use Rattle.std.proofs.lemmas.Fmt.{IsAscii-decimal}
use Rattle.json.proofs.Printed.Utf8.{IsUtf8-are_ascii, IsUtf8-quoted, IsUtf8-boolean}

abbrev mutual
  pub HasUtf8 : Data → Type 0
  HasUtf8 null = Unit {0}
  HasUtf8 (boolean b) = Unit {0}
  HasUtf8 (number n) = IsUtf8 (number_text n)
  HasUtf8 (string s) = IsUtf8 s
  HasUtf8 (array ds) = ItemsHaveUtf8 ds
  HasUtf8 (object ms) = MembersHaveUtf8 ms

  pub ItemsHaveUtf8 : Items → Type 0
  ItemsHaveUtf8 no_items = Unit {0}
  ItemsHaveUtf8 (item d ds) = HasUtf8 d × ItemsHaveUtf8 ds

  pub MembersHaveUtf8 : Members → Type 0
  MembersHaveUtf8 no_members = Unit {0}
  MembersHaveUtf8 (member k d ms) = IsUtf8 k × HasUtf8 d × MembersHaveUtf8 ms

comma : (later : Bool) → IsUtf8 (comma_if later)
comma true = IsUtf8-are_ascii (44 ∷ []) refl
comma false = IsUtf8-nil

pub one_then : (x : ℕ) (xs : List ℕ) → IsUtf8 (x ∷ []) → IsUtf8 xs → IsUtf8 (x ∷ xs)
one_then x xs one rest = IsUtf8-append (x ∷ []) xs one rest

mutual
  pub text_is_utf8 : (d : Data) → HasUtf8 d → IsUtf8 (compact_text d)
  text_is_utf8 null h = IsUtf8-are_ascii _ refl
  text_is_utf8 (boolean b) h = IsUtf8-boolean b
  text_is_utf8 (number n) h = h
  text_is_utf8 (string s) h = IsUtf8-quoted s h
  text_is_utf8 (array ds) h = one_then 91 _ (IsUtf8-are_ascii _ refl) (items_are_utf8 false ds h)
  text_is_utf8 (object ms) h = one_then 123 _ (IsUtf8-are_ascii _ refl) (members_are_utf8 false ms h)

  items_are_utf8 : (later : Bool) (ds : Items) → ItemsHaveUtf8 ds → IsUtf8 (items_text later ds)
  items_are_utf8 later no_items h = IsUtf8-are_ascii (93 ∷ []) refl
  items_are_utf8 later (item d ds) h = IsUtf8-append (comma_if later) _ (comma later)
      (IsUtf8-append (compact_text d) _ (text_is_utf8 d h.0) (items_are_utf8 true ds h.1))

  members_are_utf8 : (later : Bool) (ms : Members) → MembersHaveUtf8 ms → IsUtf8 (members_text later ms)
  members_are_utf8 later no_members h = IsUtf8-are_ascii (125 ∷ []) refl
  members_are_utf8 later (member k d ms) h =
      IsUtf8-append (comma_if later) _ (comma later) (IsUtf8-append (quoted k) _ (IsUtf8-quoted k h.0)
      (one_then 58 _ (IsUtf8-are_ascii _ refl)
      (IsUtf8-append (compact_text d) _ (text_is_utf8 d h.1) (members_are_utf8 true ms h.2))))

pub digits_are_utf8 : (n : ℕ) → n < 2 ^ 64 → IsUtf8 (decimal n)
digits_are_utf8 n small = IsUtf8-from_ascii _ (IsAscii-decimal n small)
