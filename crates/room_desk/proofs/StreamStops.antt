-- What a stop may leave after several messages.
use Rattle.room_desk.proofs.Common.{◌≡◌, ℕ, refl, ap, ◌⊎◌, inl, inr, Result, Ok, List, [], ◌∷◌, SubjectModel, Records}
use Rattle.room_desk.proofs.Common.{Room, View, LeavesNew, LeavesOldOrNew, WireFault, Delay, AskModel, Event, ask_of}
use Rattle.room_desk.proofs.Common.{EventModel, MessageModel, Outputs, no_output, first_answered, with_first}
use Rattle.room_desk.proofs.Common.{AnswerModel, Refused, History, StandsFor, Answered, MayAnswer, AnswersOrDelays}
use Rattle.room_desk.proofs.Common.{AnswersMessage, doubt_after, StandsInDoubt, Doubt, no_doubt, AnswersInDoubt}
use Rattle.room_desk.proofs.Stops.{after_event, at_rest, one_more, is_delayed, intact_before, after_shut}

module _ {S : Type 0} (view : S → View)
    (settled : (s : S) (left : Records) → (view s).is_available → (view s).crash_may_leave left
    → left ≡ (view s).records) where
  -- one message that was answered, and what is in doubt after it
  module _ (start : Room) (past : History) (doubted : List EventModel) (before after : S) (answered : AnswerModel)
      (intact : (view after).is_intact) (stands : StandsFor start past (view before))
      (leaves : LeavesNew (view before) (StandsInDoubt start past doubted)) where
    -- what asks no event adds nothing
    kept : {P Q There : Type 0} (next : History) → (P × (next ≡ past)) ⊎ (Q × (next ≡ past))
        → LeavesOldOrNew (view before) (view after) (λ left. There × ⊥)
        → LeavesNew (view after) (StandsInDoubt start next doubted)
    kept next step crash =
        let same : next ≡ past = elim step [ inl is ↦ is.1 | inr is ↦ is.1 ] in
        rw same (λ left may. elim (crash left may) [ inl old ↦ leaves left old | inr none ↦ absurd none.1 ])

    pub after_ask : (ask : Result AskModel WireFault) → Answered ask (view before) answered (view after)
        → (next : History) × AnswersOrDelays start past ask answered next × StandsFor start next (view after)
        × LeavesNew (view after) (StandsInDoubt start next (doubt_after doubted ask answered))
    after_ask (Ok (Event event)) call =
        after_event view settled {before = before} {after = after} call intact start past stands doubted leaves
    after_ask ask call =
        let (next, step, stand) = call.step intact start past stands in
        (next, step, stand, kept next step (call.crash intact start past stands))

  module _ (users : List SubjectModel) where
    -- messages in turn, from rows in doubt
    pub stream_in_doubt : (before after : S) (ms : List MessageModel) (out : List ℕ) (start : Room) (known : Doubt)
        → Outputs (MayAnswer view users) before ms out after → (view after).is_intact
        → StandsFor start known.past (view before)
        → LeavesNew (view before) (StandsInDoubt start known.past known.doubted)
        → (next : Doubt) × Outputs (AnswersInDoubt users start) known ms out next
        × StandsFor start next.past (view after) × LeavesNew (view after) (StandsInDoubt start next.past next.doubted)
    stream_in_doubt before after [] out start known run intact stands leaves =
        let none = no_output (MayAnswer view users) run in
        (known, ([], refl, none.0), rw none.1 stands, rw none.1 leaves)
    stream_in_doubt before after (m ∷ ms) out start known all intact stands leaves =
        let run = first_answered (MayAnswer view users) m ms all in
        let one = after_ask start known.past known.doubted before run.1 run.0
        (intact_before view (ask_of users) run.1 after ms run.4.0 run.4.1 intact) stands leaves
        (ask_of users m) run.3 in
        let mid : Doubt =
        record { past = one.0; doubted = doubt_after known.doubted (ask_of users m) run.0 } in
        let later = stream_in_doubt run.1 after ms run.2 start mid run.4 intact one.2 one.3 in
        let out_of = with_first (AnswersInDoubt users start) m ms (run.0, mid, run.2, (one.1, refl), later.1, run.5) in
        (later.0, out_of, later.2, later.3)

    -- and from a store that is there
    pub stream_from_there : (before after : S) (ms : List MessageModel) (out : List ℕ) (start : Room) (past : History)
        → (view before).is_available → StandsFor start past (view before)
        → Outputs (MayAnswer view users) before ms out after → (view after).is_intact
        → (next : Doubt) × Outputs (AnswersInDoubt users start) (no_doubt past) ms out next
        × StandsFor start next.past (view after) × LeavesNew (view after) (StandsInDoubt start next.past next.doubted)
    stream_from_there before after ms out start past there stands run intact =
        stream_in_doubt before after ms out start (no_doubt past) run intact stands
        (λ left may. inl (at_rest view settled before start past there stands left may))

    -- the message in which a fault shut the store
    pub stream_by_shutting : (before mid after : S) (m : MessageModel) (event : EventModel) (answered : AnswerModel)
        (ms : List MessageModel) (out : List ℕ) (start : Room) (past : History)
        → (view before).is_available → StandsFor start past (view before) → ask_of users m ≡ Ok (Event event)
        → MayAnswer view users before m answered mid → ((view mid).is_available → ⊥)
        → Outputs (MayAnswer view users) mid ms out after → (view after).is_intact
        → (answered ≡ Refused Delay) × StandsFor start past (view after)
        × LeavesNew (view after) (StandsInDoubt start past (event ∷ []))
    stream_by_shutting before mid after m event answered ms out start past there stands asks call gone run intact =
        let was = intact_before view (ask_of users) mid after ms run.0 run.1 intact in
        let one = rw asks at call in
        let left = one_more view settled {before = before} {after = mid} one was start past stands []
        (λ r may. inl (at_rest view settled before start past there stands r may)) in
        let later = after_shut view (ask_of users) mid after ms run.0 start past gone run.1 intact in
        (is_delayed one was start past stands gone, λ h. absurd (later.0 h), λ r may. left r (later.1 r may))

-- what a stream leaves in doubt goes by its answers
pub by_answers : (users : List SubjectModel) (start : Room) (known : Doubt) (ms : List MessageModel) (out : List ℕ)
    (next : Doubt) → Outputs (AnswersInDoubt users start) known ms out next
    → Outputs (AnswersMessage users start) known.past ms out next.past
by_answers users start known [] out next run =
    let none = no_output (AnswersInDoubt users start) run in ([], ap (λ (d : Doubt). d.past) none.1, none.0)
by_answers users start known (m ∷ ms) out next all =
    let run = first_answered (AnswersInDoubt users start) m ms all in
    let later = by_answers users start run.1 ms run.2 next run.4 in
    with_first (AnswersMessage users start) m ms (run.0, run.1.past, run.2, run.3.0, later, run.5)
