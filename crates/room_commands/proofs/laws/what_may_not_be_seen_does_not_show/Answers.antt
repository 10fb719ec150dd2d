use Rattle.room_commands.proofs.NothingShows.{reply_alike}
use Rattle.room_commands.proofs.CommandsStay.{all_replies_alike}
use Rattle.room_commands.proofs.laws.what_may_not_be_seen_does_not_show.Goals as goal

pub returns-clause-answer : goal.returns-clause-answer
returns-clause-answer c =
    λ a b caller command lawful room_a room_b alike. reply_alike a b caller room_a room_b alike command lawful

pub returns-clause-answers : goal.returns-clause-answers
returns-clause-answers c =
    λ a b caller commands each room_a room_b alike. all_replies_alike caller commands a b each room_a room_b alike
