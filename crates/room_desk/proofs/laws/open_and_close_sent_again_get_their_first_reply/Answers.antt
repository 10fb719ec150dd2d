use Rattle.room_desk.proofs.SentAgain.{open_again, close_again}
use Rattle.room_desk.proofs.laws.open_and_close_sent_again_get_their_first_reply.Goals as goal

pub returns-clause-open : goal.returns-clause-open
returns-clause-open c = open_again

pub returns-clause-close : goal.returns-clause-close
returns-clause-close c = close_again
