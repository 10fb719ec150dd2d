-- One message more.
use Rattle.room_wire.proofs.Common.{◌≡◌, ℕ, ◌+◌, Bool, true, false, ◌||◌, ◌==◌, List, [], ◌∷◌, ◌++◌, length, take, drop}
use Rattle.room_wire.proofs.Common.{map, refl, sym, ap, subst, ◌∙◌, Option, append_assoc, append-nil, ◌⊎◌, inl, inr}
use Rattle.room_wire.proofs.Common.{length-append, Appends-trans, Appends, header_bytes, AnswerModel, answer_bytes}
use Rattle.room_wire.proofs.Common.{MessageModel, Reads, AnswersOne, Outputs, Follows, Ended, is_last, asks_to_close}
use Rattle.room_wire.proofs.Common.{Sent, AppendsFront}
use Rattle.room_wire.specs.declared.messages.message.Message.{Message}
use Rattle.room_wire.specs.Messages.Taken.{Shows}
use Rattle.room_wire.proofs.Lemmas.Messages.Streams.{follows_then, follows_ended, follows_one, ended_one}

pub shown_last : (message : Message) (m : MessageModel) (last : Bool) → Shows message m
    → last ≡ ((message.minor == 0)
    || asks_to_close (map (header_bytes message.window.now) (take message.count message.spans)))
    → last ≡ is_last m
shown_last message m last s e = e ∙ (λ i. (s.minor i == 0) || asks_to_close (s.fields i))

-- the answer to the first message, and the output of the rest
abbrev pub FirstAnswered : {S : Type 0} → (S → MessageModel → AnswerModel → S → Type 0)
    → S → MessageModel → List MessageModel → List ℕ → S → Type 0
FirstAnswered {S} may before m ms out after =
    (answer : AnswerModel) × (next : S) × (later : List ℕ)
    × may before m answer next × Outputs may next ms later after
    × (out ≡ answer_bytes answer (is_last m) ++ later)

module _ {S : Type 0} (may : S → MessageModel → AnswerModel → S → Type 0) {before after : S} {out : List ℕ} where
  pub no_output : Outputs may before [] out after → (out ≡ []) × (after ≡ before)
  no_output ([], same, none) = (none, same)
  no_output (answer ∷ answers, none, written) = absurd none

  pub first_answered : (m : MessageModel) (ms : List MessageModel) → Outputs may before (m ∷ ms) out after
      → FirstAnswered may before m ms out after
  first_answered m ms ([], none, written) = absurd none
  first_answered m ms (answer ∷ answers, (next, one, turn), (later, is, written)) =
      (answer, next, later, one, (answers, turn, written), is)

  pub with_first : (m : MessageModel) (ms : List MessageModel) → FirstAnswered may before m ms out after
      → Outputs may before (m ∷ ms) out after
  with_first m ms (answer, next, later, one, (answers, turn, written), is) =
      (answer ∷ answers, (next, one, turn), (later, is, written))

-- the answers to some messages, and then to others
pub outputs_then : {S : Type 0} (may : S → MessageModel → AnswerModel → S → Type 0)
    (s t u : S) (ms ks : List MessageModel) (a b : List ℕ)
    → Outputs may s ms a t → Outputs may t ks b u → Outputs may s (ms ++ ks) (a ++ b) u
outputs_then may s t u [] ks a b z y =
    let x = no_output may z in
    subst (λ v. Outputs may v ks (a ++ b) u) x.1 (subst (λ v. Outputs may t ks (v ++ b) u) (sym x.0) y)
outputs_then may s t u (m ∷ ms) ks a b z y = let x = first_answered may m ms z in with_first may m (ms ++ ks) (
  x.0,
  x.1,
  x.2 ++ b,
  x.3,
  outputs_then may x.1 t u ms ks x.2 b x.4 y,
  ap (λ v. v ++ b) x.5 ∙ append_assoc (answer_bytes x.0 (is_last m)) x.2 b,
)

-- the answer of the message was sent, or a beginning of it
pub record Answered {S : Type 0} (may : S → MessageModel → AnswerModel → S → Type 0)
    (before after : S) (old new : Option (List ℕ)) (m : MessageModel) (ok : Bool) : Type 0 where
  pub text : List ℕ
  pub output : Outputs may before (m ∷ []) text after
  pub sent : Sent old new text ok

pub shown_answer : {S : Type 0} (may : S → MessageModel → AnswerModel → S → Type 0) (before after : S)
    (message : Message) (m : MessageModel) (last ok v : Bool) (old new : Option (List ℕ))
    → Shows message m → last ≡ is_last m → ok ≡ v
    → AnswersOne may before after message last old new ok → Answered may before after old new m v
shown_answer may before after message m last ok v old new s e f a = record {
  text = answer_bytes a.0 last;
  output = with_first may m [] (
    a.0,
    after,
    [],
    a.1 m s,
    ([], refl, refl),
    ap (answer_bytes a.0) e ∙ sym (append-nil (answer_bytes a.0 (is_last m))),
  );
  sent = subst (Sent old new (answer_bytes a.0 last)) f a.2;
}

pub ends : (start now next : List ℕ) (ms : List MessageModel) (m : MessageModel)
    → Follows start ms now → Reads now m next → is_last m ≡ true → Ended start (ms ++ m ∷ []) next
ends start now next ms m so reads last = follows_ended ms (m ∷ []) start now next so (ended_one now next m reads last)

-- a beginning of the answer was written
pub breaks : (a b c : Option (List ℕ)) (out text : List ℕ) → Appends a b out
    → AppendsFront b c text → AppendsFront a c (out ++ text)
breaks a b c out text so x =
    (out ++ x.0, x.1, ap (λ t. out ++ t) x.2 ∙ sym (append_assoc out x.0 x.1), Appends-trans a b c out x.0 so x.3)

pub one_more : (ms : List MessageModel) (m : MessageModel) → length (ms ++ m ∷ []) ≡ length ms + 1
one_more ms m = length-append ms (m ∷ []) ∙ refl

-- the message that was taken
pub reads_at : (bytes now next : List ℕ) (m : MessageModel) (size : ℕ) → bytes ≡ now
    → next ≡ drop size now → Reads bytes m (drop size bytes) → Reads now m next
reads_at bytes now next m size e f x =
    subst (λ t. Reads now m t) (sym f) (subst (λ t. Reads t m (drop size t)) e x)

pub begun : (start now next : List ℕ) (ms : List MessageModel) (m : MessageModel) (b : Bool)
    → is_last m ≡ b → Follows start ms now → Reads now m next
    → Follows start (ms ++ m ∷ []) next ⊎ Ended start (ms ++ m ∷ []) next
begun start now next ms m true e so x = inr (ends start now next ms m so x e)
begun start now next ms m false e so x = inl (follows_then ms (m ∷ []) start now next so (follows_one now next m x e))
