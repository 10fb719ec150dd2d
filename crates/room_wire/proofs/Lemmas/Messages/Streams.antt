-- How splits and answers go on.
use Rattle.room_wire.proofs.Common.{◌≡◌, ℕ, Bool, true, false, List, [], ◌∷◌, ◌++◌, refl, sym, ap, subst, ◌∙◌}
use Rattle.room_wire.proofs.Common.{append_assoc, append-nil, ◌⊎◌, inl, inr, MessageModel, Reads, NoMessage}
use Rattle.room_wire.proofs.Common.{print_message, Follows, Ended, Splits, is_last}
use Rattle.std.specs.Bool.{MatchBool}
use Rattle.room_wire.proofs.Lemmas.Messages.Fronts.{message_prefix_free}

pub follows_then : (ms ks : List MessageModel) (a b c : List ℕ)
    → Follows a ms b → Follows b ks c → Follows a (ms ++ ks) c
follows_then [] ks a b c x y = subst (λ t. Follows t ks c) (sym x) y
follows_then (m ∷ ms) ks a b c x y = (x.0, x.1, x.2, follows_then ms ks x.0 b c x.3 y)

pub follows_ended : (ms ks : List MessageModel) (a b c : List ℕ) → Follows a ms b → Ended b ks c → Ended a (ms ++ ks) c
follows_ended [] ks a b c x y = subst (λ t. Ended t ks c) (sym x) y
follows_ended (m ∷ ms) ks a b c x y = (
  x.0,
  x.1,
  subst (λ v. MatchBool v ((ms ++ ks ≡ []) × (x.0 ≡ c)) (Ended x.0 (ms ++ ks) c))
      (sym x.2) (follows_ended ms ks x.0 b c x.3 y),
)

-- one message more
pub follows_one : (a b : List ℕ) (m : MessageModel) → Reads a m b → is_last m ≡ false → Follows a (m ∷ []) b
follows_one a b m x last = (b, x, last, refl)

pub ended_one : (a b : List ℕ) (m : MessageModel) → Reads a m b → is_last m ≡ true → Ended a (m ∷ []) b
ended_one a b m x last = let none : List MessageModel = [] in
    (b, x, subst (λ v. MatchBool v ((none ≡ none) × (b ≡ b)) (Ended b none b)) (sym last) (refl, refl))

pub reads_more : (a b more : List ℕ) (m : MessageModel) → Reads a m b → Reads (a ++ more) m (b ++ more)
reads_more a b more m x =
    record { lawful = x.lawful; whole = ap (λ t. t ++ more) x.whole ∙ append_assoc (print_message m) b more }

-- more bytes come
pub follows_more : (ms : List MessageModel) (a b more : List ℕ) → Follows a ms b → Follows (a ++ more) ms (b ++ more)
follows_more [] a b more x = ap (λ t. t ++ more) x
follows_more (m ∷ ms) a b more x = (x.0 ++ more, reads_more a x.0 more m x.1, x.2, follows_more ms x.0 b more x.3)

-- ---- the split is one

reads_one : (a b c : List ℕ) (m k : MessageModel) → Reads a m b → Reads a k c → (m ≡ k) × (b ≡ c)
reads_one a b c m k x y =
    let y' : Reads (a ++ []) k c = record { lawful = y.lawful; whole = append-nil a ∙ y.whole } in
    let same = message_prefix_free a [] m k b c x y' in
    (same.0, sym (append-nil b) ∙ same.1)

-- what stands at the front is a front of each split
pub follows_ended_none : (ms ks : List MessageModel) (a b c : List ℕ) → Follows a ms b
    → Follows a ks c → NoMessage b → NoMessage c → (ms ≡ ks) × (b ≡ c)
follows_ended_none [] [] a b c x y p q = (refl, sym x ∙ y)
follows_ended_none [] (k ∷ ks) a b c x y p q = absurd (p k y.0 (subst (λ t. Reads t k y.0) x y.1))
follows_ended_none (m ∷ ms) [] a b c x y p q = absurd (q m x.0 (subst (λ t. Reads t m x.0) y x.1))
follows_ended_none (m ∷ ms) (k ∷ ks) a b c x y p q =
    let one = reads_one a x.0 y.0 m k x.1 y.1 in
    let rest = follows_ended_none ms ks x.0 b c x.3 (subst (λ t. Follows t ks c) (sym one.1) y.3) p q in
    ((λ i. one.0 i ∷ rest.0 i), rest.1)

-- the head of an end is a message that is last, or an end after it
ended_cases : (m : MessageModel) (ms : List MessageModel) (tail c : List ℕ) (b : Bool)
    → is_last m ≡ b → MatchBool (is_last m) ((ms ≡ []) × (tail ≡ c)) (Ended tail ms c)
    → MatchBool b ((ms ≡ []) × (tail ≡ c)) (Ended tail ms c)
ended_cases m ms tail c b e x = subst (λ v. MatchBool v ((ms ≡ []) × (tail ≡ c)) (Ended tail ms c)) e x

ended_step : (m : MessageModel) (ms ks : List MessageModel) (tail b c : List ℕ) (v : Bool)
    → MatchBool v ((ms ≡ []) × (tail ≡ b)) (Ended tail ms b) → MatchBool v ((ks ≡ []) × (tail ≡ c)) (Ended tail ks c)
    → (Ended tail ms b → Ended tail ks c → (ms ≡ ks) × (b ≡ c)) → (ms ≡ ks) × (b ≡ c)
ended_step m ms ks tail b c true x y next = (x.0 ∙ sym y.0, sym x.1 ∙ y.1)
ended_step m ms ks tail b c false x y next = next x y

both_ended : (ms ks : List MessageModel) (a b c : List ℕ) → Ended a ms b → Ended a ks c → (ms ≡ ks) × (b ≡ c)
both_ended [] ks a b c x y = absurd x
both_ended (m ∷ ms) [] a b c x y = absurd y
both_ended (m ∷ ms) (k ∷ ks) a b c x y =
    let one = reads_one a x.0 y.0 m k x.1 y.1 in
    let y2 : MatchBool (is_last m) ((ks ≡ []) × (x.0 ≡ c)) (Ended x.0 ks c) =
    subst (λ t. MatchBool (is_last m) ((ks ≡ []) × (t ≡ c)) (Ended t ks c)) (sym one.1)
    (ended_cases k ks y.0 c (is_last m) (ap is_last (sym one.0)) y.2) in
    let rest = ended_step m ms ks x.0 b c (is_last m) x.2 y2 (both_ended ms ks x.0 b c) in
    ((λ i. one.0 i ∷ rest.0 i), rest.1)

-- a stream does not end in a last message and go on without one
ended_or_follows : (ms ks : List MessageModel) (a b c : List ℕ) → Ended a ms b → Follows a ks c → NoMessage c → ⊥
ended_or_follows [] ks a b c x y none = x
ended_or_follows (m ∷ ms) [] a b c x y none = none m x.0 (subst (λ t. Reads t m x.0) y x.1)
ended_or_follows (m ∷ ms) (k ∷ ks) a b c x y none =
    let one = reads_one a x.0 y.0 m k x.1 y.1 in
    let goes = ended_cases m ms x.0 b false (ap is_last one.0 ∙ y.2) x.2 in
    ended_or_follows ms ks x.0 b c goes (subst (λ t. Follows t ks c) (sym one.1) y.3) none

-- a stream splits in one way
pub split_one : (bytes : List ℕ) (ms ks : List MessageModel) (r q : List ℕ)
    → Splits bytes ms r → Splits bytes ks q → (ms ≡ ks) × (r ≡ q)
split_one bytes ms ks r q (inl x) (inl y) = both_ended ms ks bytes r q x y
split_one bytes ms ks r q (inl x) (inr y) = absurd (ended_or_follows ms ks bytes r q x y.0 y.1)
split_one bytes ms ks r q (inr x) (inl y) = absurd (ended_or_follows ks ms bytes q r y x.0 x.1)
split_one bytes ms ks r q (inr x) (inr y) = follows_ended_none ms ks bytes r q x.0 y.0 x.1 y.1

-- messages at the front, none of them last, are a front of the split
follows_front : (ms ks : List MessageModel) (a b c : List ℕ) → Follows a ms b
    → Splits a ks c → (later : List MessageModel) × (ks ≡ ms ++ later)
follows_front [] ks a b c x y = (ks, refl)
follows_front (m ∷ ms) [] a b c x (inl y) = absurd y
follows_front (m ∷ ms) [] a b c x (inr y) = absurd (y.1 m x.0 (subst (λ t. Reads t m x.0) y.0 x.1))
follows_front (m ∷ ms) (k ∷ ks) a b c x (inl y) =
    let one = reads_one a x.0 y.0 m k x.1 y.1 in
    let goes = ended_cases k ks y.0 c false (ap is_last (sym one.0) ∙ x.2) y.2 in
    let rest = follows_front ms ks x.0 b c x.3 (inl (subst (λ t. Ended t ks c) (sym one.1) goes)) in
    (rest.0, (λ i. sym one.0 i ∷ rest.1 i))
follows_front (m ∷ ms) (k ∷ ks) a b c x (inr y) =
    let one = reads_one a x.0 y.0.0 m k x.1 y.0.1 in
    let rest = follows_front ms ks x.0 b c x.3 (inr (subst (λ t. Follows t ks c) (sym one.1) y.0.3, y.1)) in
    (rest.0, (λ i. sym one.0 i ∷ rest.1 i))

-- messages at the front, the last of which may be last, are a front of the split
pub begun_front : (ms ks : List MessageModel) (a b c : List ℕ) → Follows a ms b ⊎ Ended a ms b
    → Splits a ks c → (later : List MessageModel) × (ks ≡ ms ++ later)
begun_front ms ks a b c (inl x) y = follows_front ms ks a b c x y
begun_front ms ks a b c (inr x) y = ([], sym (split_one a ms ks b c (inl x) y).0 ∙ sym (append-nil ms))
