use Rattle.room_desk.proofs.Retries.{repeat_answer, uncached_answer, false_retry_answer, misordered_answer}
use Rattle.room_desk.proofs.laws.a_repeat_gets_its_first_reply.Goals as goal

pub returns-clause-repeat : goal.returns-clause-repeat
returns-clause-repeat c = repeat_answer

pub returns-clause-uncached : goal.returns-clause-uncached
returns-clause-uncached c = uncached_answer

pub returns-clause-false_retry : goal.returns-clause-false_retry
returns-clause-false_retry c = false_retry_answer

pub returns-clause-misordered : goal.returns-clause-misordered
returns-clause-misordered c = misordered_answer
