-- Messages that are answered in turn are attempts in turn, and a stop after them leaves rows to which they lead.
use Rattle.room_desk.proofs.Common.{◌≡◌, refl, sym, subst, inl, inr, List, [], ◌∷◌, ◌++◌, Some, Result, Ok, Contains}
use Rattle.room_desk.proofs.Common.{SubjectModel, Records, Room, View, LeavesNew, WireFault, AskModel, Event, ask_of}
use Rattle.room_desk.proofs.Common.{EventModel, MessageModel, InTurn, AnswerModel, History, StandsFor, MayAnswer}
use Rattle.room_desk.proofs.Common.{AnswersOrDelays, by_event, doubt_after, StandsInDoubt, Doubt, no_doubt, Attempt}
use Rattle.room_desk.proofs.Common.{Taken}
use Rattle.room_desk.specs.ClientRuns.{attempts_in, LeadsBy}
use Rattle.room_desk.proofs.Stops.{at_rest}
use Rattle.room_desk.proofs.StreamStops.{after_ask}
use Rattle.room_desk.proofs.AttemptRuns.{step_meets, event_in_doubt, in_none, TakenWith, taken_in_turn}

-- the attempt that a message asks, and then others
abbrev pub with_attempt : Result AskModel WireFault → AnswerModel → List Attempt → List Attempt
with_attempt ask answered rest = by_event (λ event. record { event = event; told = Some answered } ∷ rest) rest ask

module _ (start : Room) where
  ask_meets : (past mid last : History) (ask : Result AskModel WireFault) (answered : AnswerModel)
      (rest : List Attempt) → AnswersOrDelays start past ask answered mid → Taken start mid rest last
      → Taken start past (with_attempt ask answered rest) last
  ask_meets past mid last (Ok (Event event)) answered rest step taken =
      (mid, step_meets start past mid event answered step, taken)
  ask_meets past mid last ask answered rest (inl (is, same)) taken = rw same at taken
  ask_meets past mid last ask answered rest (inr (is, same)) taken = rw same at taken

  -- an event that is in doubt after a message joined there, or was in doubt before
  doubt_step : (past mid last : History) (ask : Result AskModel WireFault) (answered : AnswerModel)
      (doubted : List EventModel) (event : EventModel) (rest : List Attempt)
      → AnswersOrDelays start past ask answered mid → Contains (doubt_after doubted ask answered) event
      → Taken start (event ∷ mid) rest last
      → TakenWith start past (with_attempt ask answered rest) last doubted event
  doubt_step past mid last (Ok (Event one)) answered doubted event rest step among taken =
      event_in_doubt start past mid last one answered doubted event rest step among taken
  doubt_step past mid last ask answered doubted event rest (inl (is, same)) among taken = inr (among, rw same at taken)
  doubt_step past mid last ask answered doubted event rest (inr (is, same)) among taken = inr (among, rw same at taken)

with_more : (ask : Result AskModel WireFault) (answered : AnswerModel) (more : List Attempt)
    → with_attempt ask answered more ≡ with_attempt ask answered [] ++ more
with_more (Ok (Event event)) answered more = refl
with_more ask answered more = refl

-- the rows stand for a history, and a crash leaves such rows, or with one of the events in doubt, and laid out
abbrev pub LeavesInDoubt : {S : Type 0} (view : S → View) → Room → Doubt → S → Type 0
LeavesInDoubt view start known s = StandsFor start known.past (view s)
    × LeavesNew (view s) (StandsInDoubt start known.past known.doubted) × (view s).leaves_laid_out

-- what was sent between two states of a shelf: it leads from the history that the rows stood for to that which they
-- stand for then, and, where some events were in doubt, to it with any that is then, or it was before
pub record Brings {S : Type 0} (view : S → View) (before after : S) (sent : List Attempt) : Type 0 where
  pub was_intact : (view after).is_intact → (view before).is_intact
  pub on : (view after).is_intact → (start : Room) (past : History) → StandsFor start past (view before)
      → (next : History) × Taken start past sent next × StandsFor start next (view after)
  pub in_doubt : (view after).is_intact → (start : Room) (known : Doubt) → LeavesInDoubt view start known before
      → (next : Doubt) × LeavesInDoubt view start next after × Taken start known.past sent next.past
      × ((event : EventModel) → Contains next.doubted event
      → TakenWith start known.past sent (event ∷ next.past) known.doubted event)

module _ {S : Type 0} (view : S → View) where
  -- nothing
  pub brings_none : (s : S) → Brings view s s []
  brings_none s = record {
    was_intact = λ intact. intact;
    on = λ intact start past stand. (past, refl, stand);
    in_doubt = λ intact start known leaves. (known, leaves, refl, λ event among. inr (among, refl));
  }

  -- some, and then more
  pub brings_then : (before between after : S) (sent more : List Attempt) → Brings view before between sent
      → Brings view between after more → Brings view before after (sent ++ more)
  brings_then before between after sent more a b = record {
    was_intact = λ intact. a.was_intact (b.was_intact intact);
    on = λ intact start past stand.
        let (mid, first, there) = a.on (b.was_intact intact) start past stand in
        let (next, later, last) = b.on intact start mid there in
        (next, taken_in_turn start past mid next sent more first later, last);
    in_doubt = λ intact start known leaves.
        let (mid, kept, first, before_it) = a.in_doubt (b.was_intact intact) start known leaves in
        let (next, left, later, then) = b.in_doubt intact start mid kept in (
          next,
          left,
          taken_in_turn start known.past mid.past next.past sent more first later,
          λ event among. elim (then event among) [
            | inl taken ↦
                inl (taken_in_turn start known.past mid.past (event ∷ next.past) sent more first taken)
            | inr (was, taken) ↦ elim (before_it event was) [
              | inl joined ↦ inl (taken_in_turn start known.past (event ∷ mid.past) (event ∷ next.past) sent more
                  joined taken)
              | inr (old, none) ↦ inr (
                old,
                taken_in_turn start (event ∷ known.past) (event ∷ mid.past)
                    (event ∷ next.past) sent more none taken,
              )
            ]
          ],
        );
  }

  module _ (settled : (s : S) (left : Records) → (view s).is_available → (view s).crash_may_leave left
      → left ≡ (view s).records) (users : List SubjectModel) where
    -- a message of these users, and its answer
    brings_message : (before after : S) (m : MessageModel) (answered : AnswerModel)
        → MayAnswer view users before m answered after
        → Brings view before after (with_attempt (ask_of users m) answered [])
    brings_message before after m answered call = record {
      was_intact = λ intact. call.frame.was_intact intact;
      on = λ intact start past stand.
          let (next, step, there) = call.step intact start past stand in
          (next, ask_meets start past next next (ask_of users m) answered [] step refl, there);
      in_doubt = λ intact start known leaves.
          let (stand, left, laid) = leaves in
          let (next, step, there, then) = after_ask view settled start known.past known.doubted before after answered
          intact stand left (ask_of users m) call in (
            record { past = next; doubted = doubt_after known.doubted (ask_of users m) answered },
            (there, then, call.stays_laid_out intact start known.past stand laid),
            ask_meets start known.past next next (ask_of users m) answered [] step refl,
            λ event among. doubt_step start known.past next (event ∷ next) (ask_of users m) answered known.doubted
                event [] step among refl,
          );
    }

    -- and several
    pub brings_messages : (before after : S) (ms : List MessageModel) (answers : List AnswerModel)
        → InTurn (MayAnswer view users) before ms answers after
        → Brings view before after (attempts_in users ms answers)
    brings_messages before after [] [] same = subst (λ s. Brings view before s []) (sym same) (brings_none before)
    brings_messages before after (m ∷ ms) (answered ∷ answers) (mid, call, run) =
        subst (λ (sent : List Attempt). Brings view before after sent)
        (sym (with_more (ask_of users m) answered (attempts_in users ms answers)))
        (brings_then before mid after (with_attempt (ask_of users m) answered []) (attempts_in users ms answers)
        (brings_message before mid m answered call) (brings_messages mid after ms answers run))
    brings_messages before after ms answers none = absurd none

  -- from a store that was there they lead where a crash may leave it
  pub brings_lead : (settled : (s : S) (left : Records) → (view s).is_available → (view s).crash_may_leave left
      → left ≡ (view s).records) (before after : S) (sent : List Attempt)
      → ((view before).is_available → (view before).is_laid_out → (view before).leaves_laid_out)
      → ((view before).is_intact → (view before).is_available) → Brings view before after sent
      → (view after).is_intact → LeadsBy view sent before after
  brings_lead settled before after sent laid_out available brings intact start past stand =
      let there = available (brings.was_intact intact) in
      let (next, (stands, left_so, laid), taken, doubted) = brings.in_doubt intact start (no_doubt past) (
        stand,
        (λ left may. inl (at_rest view settled before start past there stand left may)),
        laid_out there
            (stand there).0,
      ) in (
        λ left may. elim (left_so left may) [
          | inl rows ↦ (next.past, taken, rows)
          | inr (event, among, with_it) ↦ elim (doubted event among) [
            | inl joined ↦ (event ∷ next.past, joined, with_it.1)
            | inr (none, joined) ↦ absurd (in_none event none)
          ]
        ],
        laid,
      )
