-- What a caller may not see of a run does not show in the answers of the run to it.
use Rattle.room_desk.proofs.Common.{◌≡◌, ℕ, ◌+◌, refl, ap, sym, ◌∙◌, arith, inl, inr, Bool, true, false, not, ◌&&◌}
use Rattle.room_desk.proofs.Common.{cond, List, [], ◌∷◌, length, Result, Ok, suc, IsTrue, bytes_eq, and_right}
use Rattle.room_desk.proofs.Common.{SubjectModel, Room, IsRoom, WireFault, AskModel, Event, ask_of, EventModel}
use Rattle.room_desk.proofs.Common.{MessageModel, InTurn, Writes, AnswerModel, History, answer_to, AnswersOrDelays}
use Rattle.room_desk.proofs.Common.{IsRun, Run, Step, is_delay, AlikePasts, Begin, Both, First, Second, Others}
use Rattle.room_desk.proofs.Common.{caller_of, sid_of, LeavesSessions, is_own, asks_own, told}
use Rattle.room_desk.proofs.Stops.{never_delay, as_event}
use Rattle.room_desk.proofs.Secrets.{answers_alike}

-- a list, the last element first, before another
abbrev onto : {X : Type 0} → List X → List X → List X
onto [] ys = ys
onto (x ∷ xs) ys = onto xs (x ∷ ys)

longer : {X : Type 0} (xs ys : List X) → length (onto xs ys) ≡ length xs + length ys
longer [] ys = omega arith
longer (x ∷ xs) ys = longer xs (x ∷ ys) ∙ omega arith

same_front : {X : Type 0} (xs ys a b : List X) → length a ≡ length b → onto xs a ≡ onto ys b → (xs ≡ ys) × (a ≡ b)
same_front [] [] a b long same = (refl, same)
same_front [] (y ∷ ys) a b long same = absurd (omega (arith, longer ys (y ∷ b), ap length same, long))
same_front (x ∷ xs) [] a b long same = absurd (omega (arith, longer xs (x ∷ a), ap length same, long))
same_front (x ∷ xs) (y ∷ ys) a b long same =
    let (others, first) = same_front xs ys (x ∷ a) (y ∷ b) (ap suc long) same in
    let heads : x ≡ y = cc in
    let behind : a ≡ b = cc in
    ((λ i. heads i ∷ others i), behind)

module _ (caller : SubjectModel) (is_own_name : List ℕ → Bool) where
  abbrev own : EventModel → Bool
  own = is_own caller is_own_name

  -- the answers to the caller's own events of a history, the latest first
  abbrev told_of : Room → History → List AnswerModel
  told_of start [] = []
  told_of start (event ∷ past) = cond (own event) (answer_to start past event ∷ told_of start past) (told_of start past)

  with_both : (t : Bool) (x y : AnswerModel) (xs ys : List AnswerModel) → x ≡ y → xs ≡ ys
      → cond t (x ∷ xs) xs ≡ cond t (y ∷ ys) ys
  with_both t x y xs ys first others = (λ i. cond t (first i ∷ others i) (others i))

  without : (t : Bool) (x : AnswerModel) (xs : List AnswerModel) → t ≡ false → cond t (x ∷ xs) xs ≡ xs
  without true x xs off = cc
  without false x xs off = refl

  others_own : (past : History) (event : EventModel) → LeavesSessions caller is_own_name past event → own event ≡ false
  others_own past event (inl named) =
      and_right (bytes_eq caller.name (caller_of event).name) _ (named_off (is_own_name (sid_of event)) named)
    where
      named_off : (t : Bool) → IsTrue (not t) → t ≡ false
      named_off false h = refl
      named_off true h = let no : false ≡ true = h in cc
  others_own past event (inr idle) = ap (λ t. t && is_own_name (sid_of event)) idle.0

  module _ (a b : Room) (room_a : IsRoom a) (room_b : IsRoom b) where
    told_alike : (past other : History) → AlikePasts caller is_own_name a b past other
        → told_of a past ≡ told_of b other
    told_alike past other (Begin start) = refl
    told_alike past other (Both p o e is lawful named alike) =
        with_both (own e) (answer_to a p e) (answer_to b o e) (told_of a p) (told_of b o)
        (answers_alike caller is_own_name a b room_a room_b p o alike e is lawful named) (told_alike p o alike)
    told_alike past other (First p o e lawful leaves unseen alike) =
        without (own e) (answer_to a p e) (told_of a p) (others_own p e leaves) ∙ told_alike p o alike
    told_alike past other (Second p o e lawful leaves unseen alike) =
        told_alike p o alike ∙ sym (without (own e) (answer_to b o e) (told_of b o) (others_own o e leaves))
    told_alike past other (Others p o e f lawful lawful' leaves leaves' seen alike) =
        without (own e) (answer_to a p e) (told_of a p) (others_own p e leaves) ∙ told_alike p o alike
        ∙ sym (without (own f) (answer_to b o f) (told_of b o) (others_own o f leaves'))

  -- what a step of a run adds to them
  abbrev added : Bool → AnswerModel → List AnswerModel → List AnswerModel
  added t answered so_far = cond (t && not (is_delay answered)) (answered ∷ so_far) so_far

  added_first : (t : Bool) (answered : AnswerModel) (later so_far : List AnswerModel)
      → onto (cond (t && not (is_delay answered)) (answered ∷ later) later) so_far
      ≡ onto later (added t answered so_far)
  added_first t answered later so_far = by_test (t && not (is_delay answered))
    where
      by_test : (u : Bool) → onto (cond u (answered ∷ later) later) so_far
          ≡ onto later (cond u (answered ∷ so_far) so_far)
      by_test true = refl
      by_test false = refl

  delay_adds_none : (t : Bool) (answered : AnswerModel) (so_far : List AnswerModel) → is_delay answered ≡ true
      → so_far ≡ added t answered so_far
  delay_adds_none true answered so_far delay = rw delay refl
  delay_adds_none false answered so_far delay = refl

  answer_adds : (t : Bool) (answered x : AnswerModel) (so_far : List AnswerModel) → answered ≡ x → is_delay x ≡ false
      → cond t (x ∷ so_far) so_far ≡ added t answered so_far
  answer_adds true answered x so_far is other = rw (is, other) refl
  answer_adds false answered x so_far is other = refl

  step_adds : (start : Room) (past next : History) (event : EventModel) (answered : AnswerModel)
      → Step start past event answered next → told_of start next ≡ added (own event) answered (told_of start past)
  step_adds start past next event answered (inl joins) =
      ap (told_of start) joins.1
      ∙ answer_adds (own event) answered (answer_to start past event) (told_of start past) joins.0
      (never_delay start past event)
  step_adds start past next event answered (inr delay) =
      ap (told_of start) delay.1 ∙ delay_adds_none (own event) answered (told_of start past) (ap is_delay delay.0)

  ask_adds : (start : Room) (past next : History) (ask : Result AskModel WireFault) (answered : AnswerModel)
      → AnswersOrDelays start past ask answered next
      → told_of start next ≡ added (asks_own caller is_own_name ask) answered (told_of start past)
  ask_adds start past next (Ok (Event event)) answered step = step_adds start past next event answered step
  ask_adds start past next ask answered (inl joins) = ap (told_of start) joins.1
  ask_adds start past next ask answered (inr delay) = ap (told_of start) delay.1

  -- what is asked in turn, as events or messages
  all_add : {X : Type 0} (asks : X → Result AskModel WireFault) (start : Room) (past next : History) (xs : List X)
      (answers : List AnswerModel)
      → InTurn (λ (p : History) (x : X) (answered : AnswerModel) (n : History). AnswersOrDelays start p (asks x)
      answered n) past xs answers next
      → onto (told (λ x. asks_own caller is_own_name (asks x)) xs answers) (told_of start past) ≡ told_of start next
  all_add asks start past next [] [] is = ap (told_of start) (sym is)
  all_add asks start past next (x ∷ xs) (answered ∷ answers) (mid, step, run) =
      let later = told (λ x. asks_own caller is_own_name (asks x)) xs answers in
      added_first (asks_own caller is_own_name (asks x)) answered later (told_of start past)
      ∙ ap (onto later) (sym (ask_adds start past mid (asks x) answered step))
      ∙ all_add asks start mid next xs answers run
  all_add asks start past next xs answers none = absurd none

  abbrev own_message : List SubjectModel → MessageModel → Bool
  own_message users m = asks_own caller is_own_name (ask_of users m)

  module _ (a b : Room) (room_a : IsRoom a) (room_b : IsRoom b) (past other next last : History)
      (alike : AlikePasts caller is_own_name a b past other) (later : AlikePasts caller is_own_name a b next last) where
    told_same : (xs ys : List AnswerModel) → onto xs (told_of a past) ≡ told_of a next
        → onto ys (told_of b other) ≡ told_of b last → xs ≡ ys
    told_same xs ys one two =
        (same_front xs ys (told_of a past) (told_of b other) (ap length (told_alike a b room_a room_b past other alike))
        (one ∙ told_alike a b room_a room_b next last later ∙ sym two)).0

    pub runs_tell : (events events' : List EventModel) (answers answers' : List AnswerModel)
        → Run a past events answers next → Run b other events' answers' last
        → told own events answers ≡ told own events' answers'
    runs_tell events events' answers answers' run run' =
        told_same _ _ (all_add as_event a past next events answers run)
        (all_add as_event b other last events' answers' run')

    pub streams_tell : (users users' : List SubjectModel) (ms ks : List MessageModel) (out put : List ℕ)
        → IsRun users a past ms out next → IsRun users' b other ks put last
        → (answers answers' : List AnswerModel) × Writes ms answers out × Writes ks answers' put
        × (told (own_message users) ms answers ≡ told (own_message users') ks answers')
    streams_tell users users' ms ks out put (answers, turn, writes) (answers', turn', writes') = (
      answers,
      answers',
      writes,
      writes',
      told_same _ _ (all_add (ask_of users) a past next ms answers turn)
          (all_add (ask_of users') b other last ks answers' turn'),
    )
