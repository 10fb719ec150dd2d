-- What a writer took, call after call.
use Rattle.room_records.proofs.Common.{ℕ, ◌+◌, List, ◌++◌, take, drop, sym, ap, ◌∙◌, append_assoc, Option}
use Rattle.room_records.proofs.Common.{take-append-drop}
use Rattle.std.proofs.Math.Seq.{take-add}
use Rattle.std.proofs.KnownBytes.{Appends-trans, Appends-kept}
use Rattle.std.specs.Io.KnownBytes.{Appends, Keeps}
use Rattle.room_records.specs.Writers.{AppendsFront}

-- the writer took a part and then no more
pub front_kept : (a b c : Option (List ℕ)) (bytes : List ℕ) (at : ℕ)
    → Appends a b (take at bytes) → Keeps b c → AppendsFront a c bytes
front_kept a b c bytes at h k =
    (take at bytes, drop at bytes, sym (take-append-drop at bytes), Appends-kept a b c (take at bytes) h k)

-- and n bytes more
pub front_more : (a b c : Option (List ℕ)) (bytes : List ℕ) (at n : ℕ) → Appends a b (take at bytes)
    → Appends b c (take n (drop at bytes)) → Appends a c (take (at + n) bytes)
front_more a b c bytes at n h k =
    rw (take-add at n bytes) (Appends-trans a b c (take at bytes) (take n (drop at bytes)) h k)

-- the writer took n more, and no more
pub front_some : (a b c : Option (List ℕ)) (bytes : List ℕ) (at n : ℕ)
    → Appends a b (take at bytes) → Appends b c (take n (drop at bytes)) → AppendsFront a c bytes
front_some a b c bytes at n h k =
    (take (at + n) bytes, drop (at + n) bytes, sym (take-append-drop (at + n) bytes), front_more a b c bytes at n h k)

-- a part was written, and its front is a front of the whole
pub front_of_more : (a b : Option (List ℕ)) (x y : List ℕ) → AppendsFront a b x → AppendsFront a b (x ++ y)
front_of_more a b x y h = (h.0, h.1 ++ y, ap (λ t. t ++ y) h.2 ∙ append_assoc h.0 h.1 y, h.3)

-- after x a front of y
pub front_then : (a b c : Option (List ℕ)) (x y : List ℕ)
    → Appends a b x → AppendsFront b c y → AppendsFront a c (x ++ y)
front_then a b c x y h k =
    (x ++ k.0, k.1, ap (λ t. x ++ t) k.2 ∙ sym (append_assoc x k.0 k.1), Appends-trans a b c x k.0 h k.3)
