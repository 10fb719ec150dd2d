use Rattle.room_desk.proofs.LeftShows.{stand_anew}
use Rattle.room_desk.proofs.laws.a_room_put_anew_ends_its_sessions.Goals as goal

pub returns : goal.returns
returns c = stand_anew
