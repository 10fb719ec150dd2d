-- Bytes that came, and the rounds over them.
use Rattle.room_wire.proofs.Common.{◌≡◌, ◌<◌, ℕ, ◌+◌, List, [], ◌++◌, length, ap, subst, ◌∙◌, Option, ◌⊎◌, inl, inr}
use Rattle.room_wire.proofs.Common.{append-nil, length-append, Appends-trans, Appends, IsAtEnd, MessageModel, NoMessage}
use Rattle.room_wire.proofs.Common.{NeverMessage, Follows, Ended, Splits, bad_answer}
use Rattle.room_wire.specs.Serving.Ends.{Wrote, Refused, Answers}
use Rattle.room_wire.specs.declared.serving.stop.Why.{Why}
use Rattle.room_wire.specs.declared.serving.stop.Why.TheVariants.{Closed, BadMessage, ReadFailed, WriteFailed, Memory}
use Rattle.room_wire.proofs.Lemmas.Serving.Rounds.{breaks}
use Rattle.room_wire.proofs.Lemmas.Messages.Fronts.{none_empty}
use Rattle.room_wire.proofs.Lemmas.Messages.Streams.{follows_then, follows_ended, follows_more, split_one, begun_front}

-- the bytes at hand and more, and the messages after those so far
pub more_follows : (ms ks : List MessageModel) (bytes was more now rest : List ℕ) → Follows bytes ms was
    → now ≡ was ++ more → Follows now ks rest → Follows (bytes ++ more) (ms ++ ks) rest
more_follows ms ks bytes was more now rest x e y = follows_then ms ks (bytes ++ more)
    (was ++ more) rest (follows_more ms bytes was more x) (subst (λ t. Follows t ks rest) e y)

pub more_ended : (ms ks : List MessageModel) (bytes was more now rest : List ℕ) → Follows bytes ms was
    → now ≡ was ++ more → Ended now ks rest → Ended (bytes ++ more) (ms ++ ks) rest
more_ended ms ks bytes was more now rest x e y = follows_ended ms ks (bytes ++ more)
    (was ++ more) rest (follows_more ms bytes was more x) (subst (λ t. Ended t ks rest) e y)

pub more_begun : (ms ks : List MessageModel) (bytes was more now rest : List ℕ)
    → Follows bytes ms was → now ≡ was ++ more → Follows now ks rest ⊎ Ended now ks rest
    → Follows (bytes ++ more) (ms ++ ks) rest ⊎ Ended (bytes ++ more) (ms ++ ks) rest
more_begun ms ks bytes was more now rest x e (inl y) = inl (more_follows ms ks bytes was more now rest x e y)
more_begun ms ks bytes was more now rest x e (inr y) = inr (more_ended ms ks bytes was more now rest x e y)

pub more_count : (ms ks : List MessageModel) → length (ms ++ ks) ≡ length ms + length ks
more_count ms ks = length-append ms ks

pub never_none : (bytes : List ℕ) → NeverMessage bytes → NoMessage bytes
never_none bytes never m rest x = never [] m rest (record { lawful = x.lawful; whole = append-nil bytes ∙ x.whole })

-- the answer 40 was due
pub refused_ends : (bytes rest : List ℕ) (ms : List MessageModel) (out : List ℕ)
    (after a b c : Option (List ℕ)) (why : Why) → Appends a b out → Follows bytes ms rest → NoMessage rest
    → 0 < length rest → IsAtEnd after ⊎ NeverMessage rest → Refused b c why → Wrote bytes rest ms out after a c why
refused_ends bytes rest ms out after a b c BadMessage x y z some end h =
    (Appends-trans a b c out bad_answer x h, y, z, some, end)
refused_ends bytes rest ms out after a b c WriteFailed x y z some end h =
    inr (y, z, some, end, breaks a b c out bad_answer x h)
refused_ends bytes rest ms out after a b c Closed x y z some end h = absurd h
refused_ends bytes rest ms out after a b c ReadFailed x y z some end h = absurd h
refused_ends bytes rest ms out after a b c Memory x y z some end h = absurd h

-- what was answered is a front of the split, and all of it unless a write failed
pub answered_front : (bytes rest : List ℕ) (ms ks : List MessageModel)
    (out q : List ℕ) (after old new : Option (List ℕ)) (why : Why)
    → Wrote bytes rest ms out after old new why → Splits bytes ks q → Answers ms ks why
answered_front bytes rest ms ks out q after old new Closed w s = (split_one bytes ms ks rest q (closed w.1) s).0
  where
    closed : Ended bytes ms rest ⊎ (Follows bytes ms rest × (rest ≡ []) × IsAtEnd after) → Splits bytes ms rest
    closed (inl x) = inl x
    closed (inr x) = inr (x.0, none_empty rest (ap length x.1))
answered_front bytes rest ms ks out q after old new BadMessage w s = (split_one bytes ms ks rest q (inr (w.1, w.2)) s).0
answered_front bytes rest ms ks out q after old new ReadFailed w s = (split_one bytes ms ks rest q (inr (w.1, w.2)) s).0
answered_front bytes rest ms ks out q after old new WriteFailed (inl w) s = begun_front ms ks bytes rest q w.0 s
answered_front bytes rest ms ks out q after old new WriteFailed (inr w) s = begun_front ms ks bytes rest q (inl w.0) s
answered_front bytes rest ms ks out q after old new Memory w s = w.1
