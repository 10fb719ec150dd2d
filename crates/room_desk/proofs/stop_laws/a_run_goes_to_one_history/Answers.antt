use Rattle.room_desk.proofs.Stops.{one_history}
use Rattle.room_desk.proofs.stop_laws.a_run_goes_to_one_history.Goals as goal

pub returns : goal.returns
returns c = one_history
