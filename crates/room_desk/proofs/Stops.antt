-- What a stop may leave after several events, and an event that is sent again after it.
use Rattle.room_desk.proofs.Common.{◌≡◌, suc, refl, ap, sym, subst, ◌∙◌, arith, ◌⊎◌, inl, inr, Result, Ok, true, false}
use Rattle.room_desk.proofs.Common.{List, [], ◌∷◌, both_ways, common_steps, Records, Room, View, LeavesNew, Delay}
use Rattle.room_desk.proofs.Common.{RetryUncached, WireFault, AskModel, Event, EventModel, InTurn, AnswerModel, Refused}
use Rattle.room_desk.proofs.Common.{History, answer_to, leaves_no_reply, RepresentsHistory, StandsFor, Answered}
use Rattle.room_desk.proofs.Common.{EventAnswered, Run, Step, is_delay, AreDelayed, in_doubt, doubt_after}
use Rattle.room_desk.proofs.Common.{StandsInDoubt}
use Rattle.room_desk.proofs.Repeats.{again_is_idle, same_answer_again, uncached_again}
use Rattle.room_desk.proofs.Alike.{alike_after_idle, alike_swapped, stand_alike}

-- the answer by a history is never DELAY
pub never_delay : (start : Room) (past : History) (event : EventModel) → is_delay (answer_to start past event) ≡ false
never_delay start past event = grind (arith, common_steps)

-- an event that was answered: it joins the history, or is answered DELAY
module _ {before after : View} {event : EventModel} {answered : AnswerModel}
    (call : Answered (Ok (Event event)) before answered after) (intact : after.is_intact)
    (start : Room) (past : History) (stands : StandsFor start past before) where
  joins_or_not : ((answered ≡ answer_to start past event) × StandsFor start (event ∷ past) after)
      ⊎ ((answered ≡ Refused Delay) × StandsFor start past after)
  joins_or_not = let (next, step, stand) = call.step intact start past stands in elim step [
    | inl (is, longer) ↦ inl (is, rw longer at stand)
    | inr (is, same) ↦ inr (is, rw same at stand)
  ]

  -- one that found the store there and left it gone
  pub is_delayed : (after.is_available → ⊥) → answered ≡ Refused Delay
  is_delayed gone = elim joins_or_not [
    | inl (is, stand) ↦ absurd (gone (call.alive intact event refl (λ delay. both_ways _
        (ap is_delay is ∙ never_delay start past event) (ap is_delay delay))))
    | inr (is, stand) ↦ is
  ]

-- what an event asks
abbrev pub as_event : EventModel → Result AskModel WireFault
as_event event = Ok (Event event)

-- what is asked in turn, as events or messages
module _ {S X : Type 0} (view : S → View) (asks : X → Result AskModel WireFault) where
  abbrev AllAnswered : S → List X → List AnswerModel → S → Type 0
  AllAnswered = InTurn (λ (s : S) (x : X) (answered : AnswerModel) (next : S).
      Answered (asks x) (view s) answered (view next))

  -- a store that is intact was so before
  pub intact_before : (before after : S) (xs : List X) (answers : List AnswerModel)
      → AllAnswered before xs answers after → (view after).is_intact → (view before).is_intact
  intact_before before after [] [] is intact = rw is at intact
  intact_before before after (x ∷ xs) (a ∷ answers) (mid, call, run) intact =
      call.frame.was_intact (intact_before mid after xs answers run intact)
  intact_before before after xs answers none intact = absurd none

  -- what a crash leaves stays laid out
  pub laid_out_in_turn : (before after : S) (xs : List X) (answers : List AnswerModel) (start : Room) (past : History)
      → AllAnswered before xs answers after → (view after).is_intact
      → StandsFor start past (view before) → (view before).leaves_laid_out → (view after).leaves_laid_out
  laid_out_in_turn before after [] [] start past is intact stands laid = rw is laid
  laid_out_in_turn before after (x ∷ xs) (a ∷ answers) start past (mid, call, run) intact stands laid =
      let was = intact_before mid after xs answers run intact in
      let (next, step, stand) = call.step was start past stands in
      laid_out_in_turn mid after xs answers start next run intact stand (call.stays_laid_out was start past stands laid)
  laid_out_in_turn before after xs answers start past none intact stands laid = absurd none

  -- a store that is gone stays so, and as it is
  pub after_shut : (before after : S) (xs : List X) (answers : List AnswerModel) (start : Room) (past : History)
      → ((view before).is_available → ⊥) → AllAnswered before xs answers after → (view after).is_intact
      → ((view after).is_available → ⊥)
      × ((left : Records) → (view after).crash_may_leave left → (view before).crash_may_leave left)
  after_shut before after [] [] start past gone is intact = rw is (gone, λ left may. may)
  after_shut before after (x ∷ xs) (a ∷ answers) start past gone (mid, call, run) intact =
      let was = intact_before mid after xs answers run intact in
      let later = after_shut mid after xs answers start past (λ there. gone (call.frame.was_available there)) run
      intact in (
        later.0,
        λ left may. elim (call.crash was start past (λ h. absurd (gone h)) left (later.1 left may)) [
          | inl old ↦ old
          | inr made ↦ absurd (gone made.0)
        ],
      )
  after_shut before after xs answers start past gone none intact = absurd none

module _ {S : Type 0} (view : S → View)
    (settled : (s : S) (left : Records) → (view s).is_available → (view s).crash_may_leave left
    → left ≡ (view s).records) where
  -- while the store is there, a stop leaves what was answered and nothing else
  pub at_rest : (s : S) (start : Room) (past : History) → (view s).is_available → StandsFor start past (view s)
      → LeavesNew (view s) (λ left. RepresentsHistory start left past)
  at_rest s start past there stands = λ left may.
      subst (λ r. RepresentsHistory start r past) (sym (settled s left there may)) (stands there).1

  module _ {before after : S} {event : EventModel} {answered : AnswerModel}
      (call : EventAnswered view before event answered after) (intact : (view after).is_intact)
      (start : Room) (past : History) (stands : StandsFor start past (view before))
      (doubted : List EventModel) (leaves : LeavesNew (view before) (StandsInDoubt start past doubted)) where
    pub one_more : LeavesNew (view after) (StandsInDoubt start past (event ∷ doubted))
    one_more = λ left may. elim (call.crash intact start past stands left may) [
      | inl old ↦ elim (leaves left old) [
        | inl stand ↦ inl stand
        | inr (other, at, stand) ↦ inr (other, (suc at.0, omega (arith, at.1), at.2), stand)
      ]
      | inr made ↦ inr (event, (0, omega arith, refl), made.1)
    ]

    -- the history that an event leads to, and what is in doubt then
    pub after_event : (next : History) × Step start past event answered next × StandsFor start next (view after)
        × LeavesNew (view after) (StandsInDoubt start next (doubt_after doubted (Ok (Event event)) answered))
    after_event = elim (joins_or_not call intact start past stands) [
      | inl (is, stand) ↦ (let other : is_delay answered ≡ false = ap is_delay is ∙ never_delay start past event in (
        event ∷ past,
        inl (is, refl),
        stand,
        rw other (λ left may. inl (at_rest after start (event ∷ past)
            (call.alive intact event refl (λ delay. both_ways _ other (ap is_delay delay))) stand left may)),
      ))
      | inr (is, stand) ↦ (past, inr (is, refl), stand, rw (ap is_delay is) one_more)
    ]

  -- events in turn, from rows in doubt
  left_in_doubt : (before after : S) (events : List EventModel) (answers : List AnswerModel)
      (start : Room) (past : History) (doubted : List EventModel)
      → InTurn (EventAnswered view) before events answers after → (view after).is_intact
      → StandsFor start past (view before) → LeavesNew (view before) (StandsInDoubt start past doubted)
      → (next : History) × Run start past events answers next × StandsFor start next (view after)
      × LeavesNew (view after) (StandsInDoubt start next (in_doubt doubted events answers))
  left_in_doubt before after [] [] start past doubted is intact stands leaves = (past, refl, rw is stands, rw is leaves)
  left_in_doubt before after (event ∷ events) (answered ∷ answers) start past doubted (mid, call, run)
      intact stands leaves =
      let (next, step, stand, left) = after_event call (intact_before view as_event mid after events answers run intact)
      start past stands doubted leaves in
      let later = left_in_doubt mid after events answers start next _ run intact stand left in
      (later.0, (next, step, later.1), later.2, later.3)
  left_in_doubt before after events answers start past doubted none intact stands leaves = absurd none

  -- and from a store that is there
  pub left_from_there : (before after : S) (events : List EventModel) (answers : List AnswerModel)
      (start : Room) (past : History) → (view before).is_available → StandsFor start past (view before)
      → InTurn (EventAnswered view) before events answers after → (view after).is_intact
      → (next : History) × Run start past events answers next × StandsFor start next (view after)
      × LeavesNew (view after) (StandsInDoubt start next (in_doubt [] events answers))
  left_from_there before after events answers start past there stands run intact =
      left_in_doubt before after events answers start past [] run intact stands
      (λ left may. inl (at_rest before start past there stands left may))

  -- events over a store that is gone
  are_delayed : (before after : S) (events : List EventModel) (answers : List AnswerModel) (start : Room)
      (past : History) → ((view before).is_available → ⊥)
      → InTurn (EventAnswered view) before events answers after → (view after).is_intact → AreDelayed answers
  are_delayed before after [] [] start past gone is intact = tt
  are_delayed before after (event ∷ events) (answered ∷ answers) start past gone (mid, call, run) intact =
      let away : (view mid).is_available → ⊥ = λ there. gone (call.frame.was_available there) in (
        is_delayed call (intact_before view as_event mid after events answers run intact) start past
            (λ there. absurd (gone there)) away,
        are_delayed mid after events answers start past away run intact,
      )
  are_delayed before after events answers start past gone none intact = absurd none

  -- the event in which a fault shut the store
  pub left_by_shutting : (before mid after : S) (event : EventModel) (answered : AnswerModel)
      (events : List EventModel) (answers : List AnswerModel) (start : Room) (past : History)
      → (view before).is_available → StandsFor start past (view before)
      → EventAnswered view before event answered mid → ((view mid).is_available → ⊥)
      → InTurn (EventAnswered view) mid events answers after → (view after).is_intact
      → AreDelayed (answered ∷ answers) × StandsFor start past (view after)
      × LeavesNew (view after) (StandsInDoubt start past (event ∷ []))
  left_by_shutting before mid after event answered events answers start past there stands call gone run intact =
      let was = intact_before view as_event mid after events answers run intact in
      let left = one_more call was start past stands []
      (λ r may. inl (at_rest before start past there stands r may)) in
      let later = after_shut view as_event mid after events answers start past gone run intact in (
        (is_delayed call was start past stands gone, are_delayed mid after events answers start past gone run intact),
        λ h. absurd (later.0 h),
        λ r may. left r (later.1 r may),
      )

module _ {S : Type 0} (view : S → View) where
  -- an event that is sent again after a stop
  module _ (found after : S) (event : EventModel) (answered : AnswerModel) (start : Room) (past : History)
      (call : EventAnswered view found event answered after) (intact : (view after).is_intact) where
    -- rows that stand for the history with it twice stand for it once
    once : StandsFor start (event ∷ event ∷ past) (view after) → StandsFor start (event ∷ past) (view after)
    once twice = λ there. (
      (twice there).0,
      stand_alike (alike_swapped (alike_after_idle start (event ∷ past) event (again_is_idle past event)))
          (view after).records (twice there).1,
    )

    abbrev Delays : Type 0
    Delays = (answered ≡ Refused Delay)
        × (StandsFor start past (view after) ⊎ StandsFor start (event ∷ past) (view after))

    pub sent_again : leaves_no_reply past event ≡ false
        → StandsFor start past (view found) ⊎ StandsFor start (event ∷ past) (view found)
        → ((answered ≡ answer_to start past event) × StandsFor start (event ∷ past) (view after)) ⊎ Delays
    sent_again left (inl without) = elim (joins_or_not call intact start past without) [
      | inl joins ↦ inl joins
      | inr (is, stand) ↦ inr (is, inl stand)
    ]
    sent_again left (inr with_it) = elim (joins_or_not call intact start (event ∷ past) with_it) [
      | inl (is, twice) ↦ inl (is ∙ same_answer_again start past event left, once twice)
      | inr (is, stand) ↦ inr (is, inr stand)
    ]

    -- a request whose reply is not kept
    pub uncached_sent_again : leaves_no_reply past event ≡ true
        → StandsFor start past (view found) ⊎ StandsFor start (event ∷ past) (view found)
        → ((answered ≡ answer_to start past event) × StandsFor start (event ∷ past) (view after))
        ⊎ (((answered ≡ Refused RetryUncached) × StandsFor start (event ∷ past) (view found)
        × StandsFor start (event ∷ past) (view after)) ⊎ Delays)
    uncached_sent_again none (inl without) = elim (joins_or_not call intact start past without) [
      | inl joins ↦ inl joins
      | inr (is, stand) ↦ inr (inr (is, inl stand))
    ]
    uncached_sent_again none (inr with_it) = elim (joins_or_not call intact start (event ∷ past) with_it) [
      | inl (is, twice) ↦ inr (inl (is ∙ uncached_again start past event none, with_it, once twice))
      | inr (is, stand) ↦ inr (inr (is, inr stand))
    ]

one_step : (start : Room) (past m n : History) (event : EventModel) (answered : AnswerModel)
    → Step start past event answered m → Step start past event answered n → m ≡ n
one_step start past m n event answered one other = grind (arith, common_steps, never_delay start past event)

-- a run goes to one history
pub one_history : (start : Room) (past a b : History) (events : List EventModel) (answers : List AnswerModel)
    → Run start past events answers a → Run start past events answers b → a ≡ b
one_history start past a b [] [] one other = one ∙ sym other
one_history start past a b (event ∷ events) (answered ∷ answers) one other =
    one_history start one.0 a b events answers one.2
    (rw (one_step start past other.0 one.0 event answered other.1 one.1) at other.2)
one_history start past a b events answers one other = absurd one
