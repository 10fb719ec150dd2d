-- What stands at the front of a stream.
use Rattle.room_wire.proofs.Common.{◌≡◌, ◌≤◌, ◌<◌, ℕ, ◌+◌, List, ◌++◌, length, take, drop, map, sym, ap, subst, ◌∙◌}
use Rattle.room_wire.proofs.Common.{arith, append_assoc, None, Some, append-nil, [], slice_range, min, take-append-drop}
use Rattle.room_wire.proofs.Common.{length-append, length-take-le, take_all, length-take, length-map, same_Some}
use Rattle.room_wire.proofs.Common.{RequestHead, IsRequestHead, print_request, ReadsRequest, HasNoRequest, Field}
use Rattle.room_wire.proofs.Common.{name_and_value, RequestOverflows, AreFieldsAt, header_bytes, max_fields, max_head}
use Rattle.room_wire.proofs.Common.{MessageModel, body_after, print_message, Reads, NoMessage, NeverMessage}
use Rattle.std.proofs.lemmas.List.Folds.{drop_split}
use Rattle.httparse.proofs.RunLemmas.{length-slice_range}
use Rattle.httparse.specs.declared.spans.HeaderSpan.{HeaderSpan}
use Rattle.httparse.proofs.GrammarLemmas.{request_prefix_free}
use Rattle.room_wire.proofs.Lemmas.Messages.Boundaries.{same_front, front_in}

-- the head of a message at the front
pub head_read : (bytes : List ℕ) (m : MessageModel) (rest : List ℕ)
    → Reads bytes m rest → ReadsRequest bytes m.head (m.body ++ rest)
head_read bytes m rest x = (x.lawful.head, x.whole ∙ append_assoc (print_request m.head) m.body rest)

-- no message is a proper front of another, whatever follows: the split is unique
pub message_prefix_free : (bytes more : List ℕ) (m k : MessageModel) (r q : List ℕ)
    → Reads bytes m r → Reads (bytes ++ more) k q → (m ≡ k) × (r ++ more ≡ q)
message_prefix_free bytes more m k r q x y =
    let same = request_prefix_free bytes more m.head k.head (m.body ++ r)
    (k.body ++ q) (head_read bytes m r x) (head_read (bytes ++ more) k q y) in
    let lengths : length m.body ≡ length k.body =
    same_Some _ _ (sym x.lawful.body ∙ ap body_after same.0 ∙ y.lawful.body) in
    let bodies = same_front m.body k.body (r ++ more) q lengths (sym (append_assoc m.body r more) ∙ same.1) in
    ((λ i. record { head = same.0 i; body = bodies.0 i }), bodies.1)

-- ---- the front of the input that the parser sees

-- the window is the first 8,192 bytes of the input, and a head was read at its front
pub record Parsed (input window : List ℕ) (len : ℕ) (h : RequestHead) : Type 0 where
  pub window_is : window ≡ take max_head input
  pub reads : ReadsRequest window h (drop len window)
  pub len_is : len ≡ length (print_request h)

window_front : (input window more : List ℕ) → window ≡ take max_head input
    → input ++ more ≡ window ++ (drop max_head input ++ more)
window_front input window more e =
    ap (λ t. t ++ more) (sym (take-append-drop max_head input) ∙ ap (λ t. t ++ drop max_head input) (sym e))
    ∙ append_assoc window (drop max_head input) more

-- a message at the front has the head that was read
pub has_head : (input window : List ℕ) (len : ℕ) (h : RequestHead) → Parsed input window len h
    → (more : List ℕ) (m : MessageModel) (rest : List ℕ) → Reads (input ++ more) m rest → h ≡ m.head
has_head input window len h p more m rest x =
    let read = head_read (input ++ more) m rest x in
    let read' : ReadsRequest (window ++ (drop max_head input ++ more)) m.head (m.body ++ rest) =
    (read.0, sym (window_front input window more p.window_is) ∙ read.1) in
    (request_prefix_free window (drop max_head input ++ more) h m.head (drop len window) (m.body ++ rest)
    p.reads read').0

-- the head's fields state no length
pub never_by_fields : (input window : List ℕ) (len : ℕ) (h : RequestHead)
    → Parsed input window len h → body_after h ≡ None → NeverMessage input
never_by_fields input window len h p none more m rest x =
    let same = has_head input window len h p more m rest x in
    let contrary : None ≡ Some (length m.body) = sym none ∙ ap body_after same ∙ x.lawful.body in
    cc

-- the whole of a message lies in the bytes
pub reads_length : (bytes : List ℕ) (m : MessageModel) (rest : List ℕ) → Reads bytes m rest
    → length bytes ≡ length (print_request m.head) + length m.body + length rest
reads_length bytes m rest x =
    ap length x.whole ∙ length-append (print_request m.head ++ m.body) rest
    ∙ ap (λ n. n + length rest) (length-append (print_request m.head) m.body)

-- the body has not come whole
pub none_yet : (input window : List ℕ) (len n : ℕ) (h : RequestHead) → Parsed input window len h
    → body_after h ≡ Some n → length input < len + n → NoMessage input
none_yet input window len n h p states short m rest x =
    let y : Reads (input ++ []) m rest = record { lawful = x.lawful; whole = append-nil input ∙ x.whole } in
    let same = has_head input window len h p [] m rest y in
    let lengths : n ≡ length m.body = same_Some _ _ (sym states ∙ ap body_after same ∙ x.lawful.body) in
    let heads : len ≡ length (print_request m.head) = p.len_is ∙ ap (λ k. length (print_request k)) same in
    let whole = reads_length input m rest x in
    absurd (omega arith)

-- more fields than a message may have
pub never_by_overflow : (input window : List ℕ) → window ≡ take max_head input → RequestOverflows max_fields window
    → NeverMessage input
never_by_overflow input window e over more m rest x =
    let read = head_read (input ++ more) m rest x in
    let many = over (drop max_head input ++ more) m.head (m.body ++ rest)
    (read.0, sym (window_front input window more e) ∙ read.1) in
    absurd (omega (arith, x.lawful.few_fields))

-- 8,192 bytes hold no whole head
pub never_by_head : (input window : List ℕ) → window ≡ take max_head input
    → max_head ≤ length input → HasNoRequest window → NeverMessage input
never_by_head input window e long none more m rest x =
    let read = head_read (input ++ more) m rest x in
    let size : length window ≡ max_head = ap length e ∙ length-take-le max_head input long in
    let fits : length (print_request m.head) ≤ length window = omega (arith, x.lawful.head_fits) in
    none m.head (drop (length (print_request m.head)) window) (
      read.0,
      front_in (print_request m.head) (m.body ++ rest) window
          (drop max_head input ++ more) (sym read.1 ∙ window_front input window more e) fits,
    )

-- a short input without a whole head
pub none_by_head : (input window : List ℕ) → window ≡ take max_head input
    → length input ≤ max_head → HasNoRequest window → NoMessage input
none_by_head input window e short none m rest x =
    let whole : window ≡ input = e ∙ take_all max_head input short in
    let read = head_read input m rest x in
    none m.head (m.body ++ rest) (read.0, whole ∙ read.1)

-- the head, and what is after it
pub after_head : (input window : List ℕ) (len : ℕ) (h : RequestHead)
    → Parsed input window len h → input ≡ print_request h ++ drop len input
after_head input window len h p =
    let whole : print_request h ++ (drop len window ++ (drop max_head input ++ [])) ≡ input ++ [] =
    sym (window_front input window [] p.window_is ∙ ap (λ t. t ++ (drop max_head input ++ [])) p.reads.1
    ∙ append_assoc (print_request h) (drop len window) (drop max_head input ++ [])) in
    let whole' : print_request h ++ (drop len window ++ (drop max_head input ++ [])) ≡ input ++ [] = whole in
    let lengths : length (print_request h) ≤ length input =
    omega (arith, simp length-append at (ap length whole)) in
    subst (λ n. input ≡ print_request h ++ drop n input) (sym p.len_is)
    (front_in (print_request h) (drop len window ++ (drop max_head input ++ [])) input [] whole lengths)

-- the message that stands at the front
pub message_at : (input window : List ℕ) (len size n : ℕ) (h : RequestHead)
    → Parsed input window len h → body_after h ≡ Some n → size ≡ len + n → size ≤ length input
    → len ≤ max_head → length h.fields ≤ max_fields
    → Reads input (record { head = h; body = slice_range input len size }) (drop size input)
message_at input window len size n h p states size_is fits short few =
    let ordered : len ≤ size = omega arith in
    let body_length : length (slice_range input len size) ≡ n =
    length-slice_range input len size ordered fits ∙ (omega arith) in
    record {
      lawful = record {
        head = p.reads.0;
        head_fits = omega (arith, p.len_is);
        few_fields = few;
        body = states ∙ ap Some (sym body_length);
      };
      whole = after_head input window len h p ∙ ap (λ t. print_request h ++ t) (drop_split input len size ordered)
          ∙ sym (append_assoc (print_request h) (slice_range input len size) (drop size input));
    }

pub message_size : (input : List ℕ) (len size n : ℕ) (h : RequestHead)
    → len ≡ length (print_request h) → size ≡ len + n → size ≤ length input
    → size ≡ length (print_message (record { head = h; body = slice_range input len size }))
message_size input len size n h len_is size_is fits =
    let ordered : len ≤ size = omega arith in
    size_is ∙ sym (length-append (print_request h) (slice_range input len size)
    ∙ (λ i. sym len_is i + length-slice_range input len size ordered fits i) ∙ (omega arith))

pub window_length : (input window : List ℕ) → window ≡ take max_head input
    → (length window ≤ max_head) × (length window ≤ length input)
window_length input window e =
    let size : length window ≡ min max_head (length input) = ap length e ∙ length-take max_head input in
    (omega arith, omega arith)

-- at most as many fields as spans were written
pub few_fields : (buf : List ℕ) (spans : List HeaderSpan) (count : ℕ) (fields : List Field)
    → AreFieldsAt buf spans count fields → length fields ≤ count
few_fields buf spans count fields e =
    let sizes : length (map (header_bytes buf) (take count spans)) ≡ length (map name_and_value fields) = ap length e in
    let same = simp length-map at sizes in
    omega (arith, length-take count spans)

pub head_size : (h : RequestHead) → IsRequestHead h → 0 < length (print_request h)
unfolding print_request
head_size h p = simp length-append (omega (arith, p.method.0))

pub reads_shorter : (now next : List ℕ) (m : MessageModel) → Reads now m next → length next < length now
reads_shorter now next m x = omega (arith, reads_length now m next x, head_size m.head x.lawful.head)

-- nothing is no message
pub none_empty : (bytes : List ℕ) → length bytes ≡ 0 → NoMessage bytes
none_empty bytes e m rest x = absurd (omega (arith, reads_shorter bytes rest m x))
