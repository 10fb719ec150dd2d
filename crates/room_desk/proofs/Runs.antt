-- Events that are taken in turn go on by one.
use Rattle.room_desk.proofs.Common.{◌≡◌, ℕ, ◌+◌, ◌<◌, List, [], ◌∷◌, ◌++◌, map, take, length, get_or, refl, take_more}
use Rattle.room_desk.proofs.Common.{map-append, EventModel, event_model, Answer, AnswerModel, answer_model, InTurn}
use Rattle.room_wire.specs.declared.asks.event.Event.{Event}

module _ {S : Type 0} (answers : S → EventModel → AnswerModel → S → Type 0) where
  pub in_turn_more : (before mid after : S) (events : List EventModel)
      (told : List AnswerModel) (event : EventModel) (answered : AnswerModel) →
      InTurn answers before events told mid → answers mid event answered after
      → InTurn answers before (events ++ event ∷ []) (told ++ answered ∷ []) after
  in_turn_more before mid after [] [] event answered is step = (after, rw is at step, refl)
  in_turn_more before mid after (e ∷ es) (a ∷ others) event answered r step =
      (r.0, r.1, in_turn_more r.0 mid after es others event answered r.2 step)
  in_turn_more before mid after events told event answered none step = absurd none

  -- the same as the loop over the events goes on
  pub in_turn_at : (before mid after : S) (events : List Event) (i : ℕ)
      (event : Event) (old new : List Answer) (answered : Answer) →
      i < length events → event ≡ get_or events i event → new ≡ old ++ answered ∷ []
      → InTurn answers before (map event_model (take i events)) (map answer_model old) mid
      → answers mid (event_model event) (answer_model answered) after
      → InTurn answers before (map event_model (take (i + 1) events)) (map answer_model new) after
  in_turn_at before mid after events i event old new answered below is grown so_far step =
      rw (
        take_more events i event below,
        ← is,
        grown,
        map-append event_model (take i events),
        map-append answer_model old,
      )
      (in_turn_more before mid after (map event_model (take i events)) (map answer_model old)
      (event_model event) (answer_model answered) so_far step)
