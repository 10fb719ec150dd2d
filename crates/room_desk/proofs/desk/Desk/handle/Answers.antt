use Rattle.room_desk.proofs.Common.{event_model}
use Rattle.room_desk.proofs.Allowed.{had_rights}
use Rattle.room_desk.proofs.Trying.{answered_ok, answered_err}
use Rattle.room_desk.proofs.desk.Desk.handle.Goals as goal

pub returns-in-Ok-clause-answered : goal.returns-in-Ok-clause-answered
returns-in-Ok-clause-answered g c = answered_ok c.in-Ok.ensures

pub returns-in-Err-clause-answered : goal.returns-in-Err-clause-answered
returns-in-Err-clause-answered g c = answered_err c.in-Err.ensures

pub returns-in-Ok-clause-allowed : goal.returns-in-Ok-clause-allowed
returns-in-Ok-clause-allowed g c = λ start past. had_rights start past (event_model c.args.event.now)

pub returns-in-Err-clause-allowed : goal.returns-in-Err-clause-allowed
returns-in-Err-clause-allowed g c = λ start past. had_rights start past (event_model c.args.event.now)
