use Rattle.room_program.proofs.Restarts.{room_after, room_after_or_more, keeps_or_more, still_keeps}
use Rattle.room_program.proofs.laws.a_room_outlives_its_runs.Goals as goal

pub returns-clause-again : goal.returns-clause-again
returns-clause-again c runs found left start past steps held = room_after runs found left start past steps held

pub returns-clause-in_doubt : goal.returns-clause-in_doubt
returns-clause-in_doubt c runs found left start past steps held =
    room_after_or_more runs found left start past steps held

pub returns-clause-either : goal.returns-clause-either
returns-clause-either c rosters found left keeps = keeps_or_more rosters found left keeps

pub returns-clause-still : goal.returns-clause-still
returns-clause-still c rosters found left still = still_keeps rosters found left still
