-- A run, and a run with an event in doubt, are attempts in turn.
use Rattle.room_desk.proofs.Common.{◌≡◌, suc, zero, refl, ap, sym, subst, ◌∙◌, arith, inl, inr, ◌⊎◌, Ok, true, List, []}
use Rattle.room_desk.proofs.Common.{◌∷◌, Some, None, ◌++◌, Contains, cases_Bool, both_ways, Room, Event, EventModel}
use Rattle.room_desk.proofs.Common.{AnswerModel, History, Run, Step, is_delay, in_doubt, doubt_after, Attempt, is_lost}
use Rattle.room_desk.proofs.Common.{Meets, Taken, HearsLess, attempts_of}
use Rattle.room_desk.proofs.Stops.{never_delay}

-- an element of a list is the first or one of the others
pub one_of : (one : EventModel) (others : List EventModel) (event : EventModel) → Contains (one ∷ others) event
    → (event ≡ one) ⊎ Contains others event
one_of one others event (zero, below, is) = inl (sym is)
one_of one others event (suc k, below, is) = inr (k, omega (arith, below), is)

pub in_none : (event : EventModel) → Contains [] event → ⊥
in_none event at = omega (arith, at.1)

module _ (start : Room) where
  pub step_meets : (past next : History) (event : EventModel) (answered : AnswerModel)
      → Step start past event answered next
      → Meets start past (record { event = event; told = Some answered }) next
  step_meets past next event answered (inl (is, joins)) = inl (ap Some is, joins)
  step_meets past next event answered (inr (delay, stays)) = inr (rw delay refl, inl stays)

  pub run_is_taken : (past next : History) (events : List EventModel) (answers : List AnswerModel)
      → Run start past events answers next → Taken start past (attempts_of events answers) next
  run_is_taken past next [] [] ends = ends
  run_is_taken past next (event ∷ events) (answered ∷ answers) (mid, step, run) =
      (mid, step_meets past mid event answered step, run_is_taken mid next events answers run)
  run_is_taken past next events answers none = absurd none

  pub taken_in_turn : (past mid next : History) (sent more : List Attempt) → Taken start past sent mid
      → Taken start mid more next → Taken start past (sent ++ more) next
  taken_in_turn past mid next [] more ends later = rw ends at later
  taken_in_turn past mid next (one ∷ rest) more (then, meets, taken) later =
      (then, meets, taken_in_turn then mid next rest more taken later)

  hears_less : (past next : History) (sent heard : Attempt) → heard.event ≡ sent.event
      → (heard.told ≡ sent.told) ⊎ (heard.told ≡ None) → Meets start past sent next → Meets start past heard next
  hears_less past next sent heard same (inl told) meets = rw (same, told) meets
  hears_less past next sent heard same (inr none) (inl (answered, joins)) =
      inr (rw none refl, inr (joins ∙ rw same refl))
  hears_less past next sent heard same (inr none) (inr (lost, inl stays)) = inr (rw none refl, inl stays)
  hears_less past next sent heard same (inr none) (inr (lost, inr joins)) =
      inr (rw none refl, inr (joins ∙ rw same refl))

  pub taken_unheard : (past next : History) (sent heard : List Attempt) → HearsLess sent heard
      → Taken start past sent next → Taken start past heard next
  taken_unheard past next [] [] less ends = ends
  taken_unheard past next (sent ∷ rest) (heard ∷ more) less (mid, meets, taken) =
      (mid, hears_less past mid sent heard less.0.0 less.0.1 meets, taken_unheard mid next rest more less.1 taken)
  taken_unheard past next sent heard less taken = absurd less

  -- attempts lead from a history to another, or from it with an event that was in doubt
  abbrev pub TakenWith : History → List Attempt → History → (doubted : List EventModel) → EventModel → Type 0
  TakenWith past sent last doubted event =
      Taken start past sent last ⊎ (Contains doubted event × Taken start (event ∷ past) sent last)

  delay_step : (past next : History) (event : EventModel) (answered : AnswerModel) → is_delay answered ≡ true
      → Step start past event answered next → (next ≡ past)
  delay_step past next event answered delay (inl (is, joins)) =
      absurd (both_ways _ (ap is_delay is ∙ never_delay start past event) delay)
  delay_step past next event answered delay (inr (is, stays)) = stays

  -- an event that is in doubt after another one was answered joined there, or was in doubt before
  pub event_in_doubt : (past mid last : History) (one : EventModel) (answered : AnswerModel)
      (doubted : List EventModel) (event : EventModel) (rest : List Attempt) → Step start past one answered mid
      → Contains (doubt_after doubted (Ok (Event one)) answered) event → Taken start (event ∷ mid) rest last
      → TakenWith past (record { event = one; told = Some answered } ∷ rest) last doubted event
  event_in_doubt past mid last one answered doubted event rest step among taken =
      elim (cases_Bool (is_delay answered)) [
        | inl delay ↦ (let stays = delay_step past mid one answered delay step in
            let lost : is_lost (Some answered) ≡ true = delay in
            elim (one_of one doubted event (rw delay at among)) [
              | inl is ↦ inl (
                one ∷ past,
                inr (lost, inr refl),
                subst (λ e. Taken start (e ∷ past) rest last) is (rw stays at taken),
              )
              | inr old ↦ inr (old, (event ∷ past, inr (lost, inl refl), rw stays at taken))
            ])
        | inr other ↦ absurd (in_none event (rw other at among))
      ]

  -- one of these that were answered DELAY joined there, and none after it did
  doubted_joins : (past next : History) (events : List EventModel) (answers : List AnswerModel)
      (doubted : List EventModel) (event : EventModel) → Run start past events answers next
      → Contains (in_doubt doubted events answers) event
      → TakenWith past (attempts_of events answers) (event ∷ next) doubted event
  doubted_joins past next [] [] doubted event ends has = inr (has, ap (λ h. event ∷ h) ends)
  doubted_joins past next (one ∷ events) (answered ∷ answers) doubted event (mid, step, run) has =
      elim (doubted_joins mid next events answers (doubt_after doubted (Ok (Event one)) answered) event run has) [
        | inl taken ↦ inl (mid, step_meets past mid one answered step, taken)
        | inr (at, taken) ↦
            event_in_doubt past mid (event ∷ next) one answered doubted event (attempts_of events answers) step at taken
      ]
  doubted_joins past next events answers doubted event none has = absurd none

  -- the event in doubt joined where it was sent
  pub doubt_is_taken : (past next : History) (events : List EventModel) (answers : List AnswerModel)
      (event : EventModel) → Run start past events answers next → Contains (in_doubt [] events answers) event
      → Taken start past (attempts_of events answers) (event ∷ next)
  doubt_is_taken past next events answers event run has =
      elim (doubted_joins past next events answers [] event run has) [
        | inl taken ↦ taken
        | inr (none, taken) ↦ absurd (in_none event none)
      ]
