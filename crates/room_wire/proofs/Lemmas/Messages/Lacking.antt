-- What is lacking of a message.
use Rattle.room_wire.proofs.Common.{◌≡◌, ◌≤◌, ◌<◌, ℕ, ◌+◌, List, [], ◌∷◌, ◌++◌, length, take, drop, refl, ◌∙◌, subst}
use Rattle.room_wire.proofs.Common.{arith, Some, inl, ap, true, take_all, length-drop, length-append, IsUtf8-from_ascii}
use Rattle.room_wire.proofs.Common.{RequestHead, IsRequestHead, is_token_byte, is_uri_byte, lf, print_request}
use Rattle.room_wire.proofs.Common.{HasNoRequest, MayBecomeRequest, max_fields, max_head, body_after}
use Rattle.std.proofs.lemmas.List.Elements.{All-nil, All-push}
use Rattle.std.proofs.lemmas.Str.Ascii.{IsAscii-cons, IsAscii-nil}
use Rattle.httparse.proofs.OpenLemmas.{letter_is_token}
use Rattle.room_wire.specs.Messages.Taken.{LacksHead, LacksBody}
use Rattle.room_wire.proofs.Lemmas.Messages.Fronts.{Parsed, after_head, head_size}

-- a short input whose front is no whole head, and may become one
pub lacks_head : (input window : List ℕ) → window ≡ take max_head input → length input < max_head
    → HasNoRequest window → MayBecomeRequest window → LacksHead input
lacks_head input window e short none may =
    let whole : window ≡ input = e ∙ take_all max_head input (omega arith) in
    let None : List ℕ → Type 0 = λ bytes. HasNoRequest bytes in
    let May : List ℕ → Type 0 = λ bytes. MayBecomeRequest bytes in
    record { short = short; not_whole = subst None whole none; unfinished = subst May whole may }

-- a short head: A / HTTP/1.0
abbrev some_head : RequestHead
some_head = record { blank = []; method = 65 ∷ []; target = 47 ∷ []; minor = 0; line_end = lf; fields = []; last = lf }

is_head : IsRequestHead some_head
is_head = record {
  method = (omega arith, All-push (λ b. is_token_byte b ≡ true) [] 65 (All-nil _) letter_is_token);
  target = (omega arith, All-push (λ b. is_uri_byte b ≡ true) [] 47 (All-nil _) refl);
  target_text = IsUtf8-from_ascii _ (IsAscii-cons 47 [] (omega arith) IsAscii-nil);
  minor = omega arith;
  fields = All-nil _;
}

none_of_nothing : HasNoRequest []
none_of_nothing h rest x = absurd (omega (arith, head_size h x.0, ap length x.1, length-append (print_request h) rest))

pub lacks_all : (bytes : List ℕ) → length bytes ≡ 0 → LacksHead bytes
lacks_all [] e = record {
  short = omega arith;
  not_whole = none_of_nothing;
  unfinished = inl (print_request some_head ++ [], some_head, (is_head, refl));
}
lacks_all (b ∷ bytes) e = absurd (omega arith)

-- a head that was read, whose body is longer than what follows
pub lacks_body : (input window : List ℕ) (len n : ℕ) (h : RequestHead) → Parsed input window len h
    → body_after h ≡ Some n → len ≤ length input → length input < len + n
    → len ≤ max_head → length h.fields ≤ max_fields → LacksBody input
lacks_body input window len n h p states inside short fits few = record {
  head = h;
  rest = drop len input;
  reads = (p.reads.0, after_head input window len h p);
  head_fits = omega (arith, p.len_is);
  few_fields = few;
  lacks = (n, states, omega (arith, length-drop len input));
}
