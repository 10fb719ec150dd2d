use Rattle.room_commands.proofs.LeftShows.{left_shows}
use Rattle.room_commands.proofs.laws.what_is_left_shows_by_room_full_alone.Goals as goal

pub returns : goal.returns
returns c = left_shows
