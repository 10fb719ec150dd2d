-- Names, for proofs alone, of parts of definitions.
use Rattle.room_desk.proofs.Common.{ℕ, List, ◌∷◌, map, Option, Result, AllByRecursion, option_map_or, option_or}
use Rattle.room_desk.proofs.Common.{Records, Room, CommandModel, IsLawful, RetryUncached, WireFault, AskModel}
use Rattle.room_desk.proofs.Common.{EventModel, AnswerModel, Reply, Refused, History, Session, Accepted, state_after}
use Rattle.room_desk.proofs.Common.{kept_of_request, EventChangesFew, by_event}
use Rattle.std.specs.Option.{option_map}

-- a session with one event more, or the one that the event opens
abbrev pub with_event : Option Session → Option Session → EventModel → Option Session
with_event found opening event =
    option_or (option_map (λ (session : Session). record session { since = event ∷ session.since }) found) opening

abbrev pub commands_of : List Accepted → List CommandModel
commands_of requests = map (λ (a : Accepted). a.request.command) requests

abbrev pub HaveLawfulCommands : List Accepted → Type 0
HaveLawfulCommands requests = AllByRecursion IsLawful (commands_of requests)

-- a repeat by the reply that is kept
abbrev pub answer_again : Option (List ℕ) → AnswerModel
answer_again kept = option_map_or Reply kept (Refused RetryUncached)

abbrev pub replay : Room → Accepted → AnswerModel
replay start a = answer_again (kept_of_request (state_after start a.before) a.request).reply

abbrev pub AskChangesFew : Room → History → Result AskModel WireFault → (old new : Records) → Type 0
AskChangesFew start past ask old new = by_event (λ event. EventChangesFew start past event old new) (Unit {0}) ask
