use Rattle.room_desk.proofs.Clients.{stands_after, first_answer, again_answer, other_answer, late_copy}
use Rattle.room_desk.proofs.client_laws.requests_in_turn_run_once.Goals as goal

pub returns-clause-once : goal.returns-clause-once
returns-clause-once c = λ lane past later asked holds asks few.
    let stands = stands_after lane past later asked holds asks few in (stands.holds, stands.done)

pub returns-clause-first : goal.returns-clause-first
returns-clause-first c = λ start lane past later asked command event holds asks few ask.
    first_answer start lane past later asked (stands_after lane past later asked holds asks few) event command ask

pub returns-clause-again : goal.returns-clause-again
returns-clause-again c = λ start lane past later before command event holds asks few ask.
    again_answer start lane past later command before (stands_after lane past later _ holds asks few) few event ask

pub returns-clause-other : goal.returns-clause-other
returns-clause-other c = λ start lane past later before command asked event holds asks few differs ask.
    (other_answer start lane past later command before (stands_after lane past later _ holds asks few) few event asked
    differs ask).4

pub returns-clause-late : goal.returns-clause-late
returns-clause-late c = λ start lane past later before command event holds asks few used.
    late_copy start lane past later command before (stands_after lane past later _ holds asks few) few event used
