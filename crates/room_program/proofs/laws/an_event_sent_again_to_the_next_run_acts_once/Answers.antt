use Rattle.room_program.proofs.Common.{image_at}
use Rattle.room_program.proofs.Restarts.{again}
use Rattle.room_program.proofs.laws.an_event_sent_again_to_the_next_run_acts_once.Goals as goal

pub returns : goal.returns
returns g c opened taken after event answered start past held is adopted call intact none =
    again _ (image_at g.S.Start) opened taken after event answered start past held is adopted call intact none
