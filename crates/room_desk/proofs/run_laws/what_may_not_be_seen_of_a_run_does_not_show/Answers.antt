use Rattle.room_desk.proofs.SecretRuns.{runs_tell, streams_tell}
use Rattle.room_desk.proofs.run_laws.what_may_not_be_seen_of_a_run_does_not_show.Goals as goal

pub returns-clause-events : goal.returns-clause-events
returns-clause-events c = λ caller own a b past other next last events events' answers answers' room_a room_b alike run
    run' later. runs_tell caller own a b room_a room_b past other next last alike later events events' answers answers'
    run run'

pub returns-clause-messages : goal.returns-clause-messages
returns-clause-messages c = λ caller own a b past other next last users users' ms ks out put room_a room_b alike run
    run' later. streams_tell caller own a b room_a room_b past other next last alike later users users' ms ks out put
    run run'
