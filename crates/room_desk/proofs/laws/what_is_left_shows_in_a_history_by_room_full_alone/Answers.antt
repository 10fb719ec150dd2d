use Rattle.room_desk.proofs.LeftShows.{answers, states, stand_alike}
use Rattle.room_desk.proofs.laws.what_is_left_shows_in_a_history_by_room_full_alone.Goals as goal

pub returns-clause-answer : goal.returns-clause-answer
returns-clause-answer c = answers

pub returns-clause-room : goal.returns-clause-room
returns-clause-room c = states

pub returns-clause-rows : goal.returns-clause-rows
returns-clause-rows c = stand_alike
