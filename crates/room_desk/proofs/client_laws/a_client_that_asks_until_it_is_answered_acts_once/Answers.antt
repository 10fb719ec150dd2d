use Rattle.room_desk.proofs.Attempts.{client_did, client_told}
use Rattle.room_desk.proofs.client_laws.a_client_that_asks_until_it_is_answered_acts_once.Goals as goal

pub returns-clause-did : goal.returns-clause-did
returns-clause-did c = λ start lane past next sent client holds keeps taken few.
    client_did lane start past holds client next sent keeps taken few

pub returns-clause-told : goal.returns-clause-told
returns-clause-told c = λ start lane past mid next sent client last command holds keeps taken ask meets told few.
    client_told lane start past holds client mid next sent last command keeps taken ask meets told few
