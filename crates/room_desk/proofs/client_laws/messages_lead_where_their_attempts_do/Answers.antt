use Rattle.room_desk.proofs.ClientStreams.{brings_lead, brings_messages}
use Rattle.room_desk.proofs.client_laws.messages_lead_where_their_attempts_do.Goals as goal

pub returns : goal.returns
returns g c = λ users before after ms answers there run intact start past stands.
    brings_lead g.S.Shelf.view g.met.S.Shelf.settled before after _ (g.met.S.Shelf.leaves_laid_out before)
    (λ was. there) (brings_messages g.S.Shelf.view g.met.S.Shelf.settled users before after ms answers run) intact start
    past stands
