use Rattle.room_desk.proofs.Secrets.{answers_alike}
use Rattle.room_desk.proofs.laws.what_may_not_be_seen_of_a_history_does_not_show.Goals as goal

pub returns : goal.returns
returns c = λ caller is_own_name a b past other event room_a room_b alike is lawful own.
    answers_alike caller is_own_name a b room_a room_b past other alike event is lawful own
