use Rattle.room_desk.proofs.AttemptRuns.{run_is_taken, doubt_is_taken, taken_in_turn, taken_unheard}
use Rattle.room_desk.proofs.client_laws.runs_and_stops_take_attempts.Goals as goal

pub returns-clause-run : goal.returns-clause-run
returns-clause-run c = run_is_taken

pub returns-clause-doubt : goal.returns-clause-doubt
returns-clause-doubt c = doubt_is_taken

pub returns-clause-turn : goal.returns-clause-turn
returns-clause-turn c = taken_in_turn

pub returns-clause-lost : goal.returns-clause-lost
returns-clause-lost c = taken_unheard
