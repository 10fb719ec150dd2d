-- Answers to the messages of a stream, one after another, by a history.
use Rattle.room_desk.proofs.Common.{◌≡◌, ◌≢◌, ℕ, List, [], ◌∷◌, ◌++◌, refl, sym, ap, ◌∙◌, arith, Result, Ok, Err}
use Rattle.room_desk.proofs.Common.{Option, inl, inr, SubjectModel, Records, Room, View, ShelfFrame, Delay, WireFault}
use Rattle.room_desk.proofs.Common.{append_assoc, AskModel, Check, Event, ask_of, DecodesAsk, EventModel, MessageModel}
use Rattle.room_desk.proofs.Common.{Outputs, AnswerModel, Refused, History, StandsFor, no_output, first_answered}
use Rattle.room_desk.proofs.Common.{with_first, AnswersOrDelays, AnswersMessage, Answered, IsLeftAlone, MayAnswer}
use Rattle.room_desk.proofs.Common.{no_call, calls_then}
use Rattle.room_wire.specs.declared.fault.WireFault.TheVariants.{Memory}
use Rattle.room_wire.specs.declared.serving.stop.Why.{Why}
use Rattle.room_wire.specs.declared.serving.stop.Why.TheVariants as W
use Rattle.std.proofs.KnownBytes.{Appends-nil, Consumes-nil}
use Rattle.room_wire.specs.Serving.CheckService.{fault_code, IsCheckAnswer}
use Rattle.room_wire.specs.Serving.Ends.{Serves}
use Rattle.room_wire.specs.Questions.QuestionModel.{QuestionModel}
use Rattle.room_desk.proofs.Shorthands.{AskChangesFew}

-- what is answered otherwise than by DELAY and asks no event changes nothing
few_unasked : (start : Room) (past : History) (ask : Result AskModel WireFault) (r : Records) (answered : AnswerModel)
    → ((event : EventModel) → ask ≡ Ok (Event event) → answered ≡ Refused Delay) → answered ≢ Refused Delay
    → AskChangesFew start past ask r r
few_unasked start past (Ok (Event event)) r answered delays other = absurd (other (delays event refl))
few_unasked start past ask r answered delays other = tt

left_alone : (s : View) → IsLeftAlone s s
left_alone s = record {
  records = refl;
  failures = refl;
  intact = λ h. h;
  available = λ h. h;
  laid_out = λ d. d;
  crash = λ left may. may;
  leaves_laid_out = λ l. l;
}

-- an answer that leaves the shelf as it was
pub stays : (ask : Result AskModel WireFault) (s : View) (answered : AnswerModel)
    → ((event : EventModel) → ask ≡ Ok (Event event) → answered ≡ Refused Delay)
    → ((start : Room) (past : History) → AnswersOrDelays start past ask answered past) → Answered ask s answered s
stays ask s answered delays says = record {
  frame = no_call s;
  quiet = λ other. refl;
  alive = λ k event is other. absurd (other (delays event is));
  step = λ k start past stands. (past, says start past, stands);
  refused = λ h d away. refl;
  idle = λ h d start past stands idle. refl;
  few = λ h d start past stands other. few_unasked start past ask s.records answered delays other;
  crash = λ k start past stands left may. inl may;
  stays_laid_out = λ k start past stands l. l;
  alone = λ none. left_alone s;
}

pub question_stays : (q : QuestionModel) (s : View) (answered : AnswerModel)
    → IsCheckAnswer (Ok q) answered → Answered (Ok (Check q)) s answered s
question_stays q s answered told = stays (Ok (Check q)) s answered (λ event is. absurd (cc))
    (λ start past. elim told [ inl is ↦ inl (is, refl) | inr is ↦ inr (is, refl) ])

-- a refusal changes nothing
pub refusal_stays : (fault : WireFault) (ask : Result AskModel WireFault) (s : View)
    → DecodesAsk ask (Err fault) → Answered ask s (Refused (fault_code fault)) s
refusal_stays Memory ask s h = stays ask s _ (λ event is. refl) (λ start past. inr (refl, refl))
refusal_stays fault ask s h = rw h (stays (Err fault) s _ (λ event is. absurd (cc)) (λ start past. inl (refl, refl)))

module _ {S : Type 0} (view : S → View) where
  -- the shelf after some messages
  pub record Served (users : List SubjectModel) (before : S)
      (ms : List MessageModel) (out : List ℕ) (after : S) : Type 0 where
    pub frame : ShelfFrame (view before) (view after)
    pub run : (view after).is_intact → (start : Room) (past : History) → StandsFor start past (view before)
        → (next : History) × Outputs (AnswersMessage users start) past ms out next × StandsFor start next (view after)

  pub served : (users : List SubjectModel) (before : S) (ms : List MessageModel) (out : List ℕ) (after : S)
      → Outputs (MayAnswer view users) before ms out after → Served users before ms out after
  served users before [] out after all = let h = no_output (MayAnswer view users) all in rw h.1 (record {
    frame = no_call (view before);
    run = λ k start past stands. (past, ([], refl, h.0), stands);
  })
  served users before (m ∷ ms) out after all =
      let h = first_answered (MayAnswer view users) m ms all in
      let first = h.3 in
      let then = served users h.1 ms h.2 after h.4 in record {
        frame = calls_then _ _ _ then.frame first.frame;
        run = λ k start past stands.
            let one = first.step (then.frame.was_intact k) start past stands in
            let rest = then.run k start one.0 one.2 in
            (rest.0, with_first (AnswersMessage users start) m ms (h.0, one.0, h.2, one.1, rest.1, h.5), rest.2);
      }

  -- the shelf after a stream that was served
  pub record ServedStream (users : List SubjectModel) (before after : S)
      (left later old new : Option (List ℕ)) (why : Why) (count : ℕ) : Type 0 where
    pub frame : ShelfFrame (view before) (view after)
    pub run : (view after).is_intact → (start : Room) (past : History) → StandsFor start past (view before)
        → (next : History) × Serves (AnswersMessage users start) past next left later old new why count
        × StandsFor start next (view after)

  pub served_stream : (users : List SubjectModel) (before after : S)
      (left later old new : Option (List ℕ)) (why : Why) (count : ℕ)
      → Serves (MayAnswer view users) before after left later old new why count
      → ServedStream users before after left later old new why count
  served_stream users before after left later old new why count y =
      let all = served users before y.2 y.3 after y.5 in record {
        frame = all.frame;
        run = λ k start past stands.
            let ran = all.run k start past stands in
            (ran.0, (y.0, y.1, y.2, y.3, y.4, ran.1, y.6, y.7), ran.2);
      }

-- the end before the first read
pub memory_end : (users : List SubjectModel) (start : Room) (past : History) (left old : Option (List ℕ))
    → Serves (AnswersMessage users start) past past left left old old W.Memory 0
memory_end users start past left old =
    ([], [], [], [], Consumes-nil left, ([], refl, refl), omega arith, (refl, refl, Appends-nil old))

-- an answer leaves the history or puts one event before it
one_step : (start : Room) (past next : History) (ask : Result AskModel WireFault) (answered : AnswerModel)
    → AnswersOrDelays start past ask answered next → (events : List EventModel) × (next ≡ events ++ past)
one_step start past next (Ok (Event e)) answered (inl h) = (e ∷ [], h.1)
one_step start past next ask answered (inr h) = ([], h.1)
one_step start past next ask answered (inl h) = ([], h.1)

-- a stream that was served goes on with the history
pub goes_on : (users : List SubjectModel) (start : Room) (past : History) (ms : List MessageModel)
    (out : List ℕ) (next : History) → Outputs (AnswersMessage users start) past ms out next
    → (events : List EventModel) × (next ≡ events ++ past)
goes_on users start past [] out next h = ([], (no_output (AnswersMessage users start) h).1)
goes_on users start past (m ∷ ms) out next run =
    let h = first_answered (AnswersMessage users start) m ms run in
    let first = one_step start past h.1 (ask_of users m) h.0 h.3 in
    let rest = goes_on users start h.1 ms h.2 next h.4 in
    (rest.0 ++ first.0, rest.1 ∙ ap (λ b. rest.0 ++ b) first.1 ∙ sym (append_assoc rest.0 first.0 past))
