use Rattle.room_desk.proofs.Common.{no_call}
use Rattle.room_desk.proofs.Messages.{memory_end, served_stream}
use Rattle.room_desk.proofs.desk.Desk.serve.Goals as goal

pub returns-in_default-clause-frame : goal.returns-in_default-clause-frame
returns-in_default-clause-frame g c = rw c.take_workspace.ensures (no_call (g.S.Shelf.view c.args.self.now))

pub returns-in_default-clause-run : goal.returns-in_default-clause-run
returns-in_default-clause-run g c = λ intact start past stands. (
  past,
  memory_end c.args.roster.now start past (g.R.Read.remaining c.args.reader.now)
      (g.W.Write.contents c.args.writer.now),
  rw c.take_workspace.ensures stands,
)

pub returns-clause-frame : goal.returns-clause-frame
returns-clause-frame g c = rw (c.self.view_is, ← c.take_workspace.ensures)
    (served_stream g.S.Shelf.view c.args.roster.now _ _ _ _ _ _ _ _ c.serve_messages-end.ensures).frame

pub returns-clause-run : goal.returns-clause-run
returns-clause-run g c = rw (c.self.view_is, ← c.take_workspace.ensures)
    (served_stream g.S.Shelf.view c.args.roster.now _ _ _ _ _ _ _ _ c.serve_messages-end.ensures).run

pub returns-clause-messages : goal.returns-clause-messages
returns-clause-messages g c =
    rw (c.self.view_is, ← c.take_workspace.ensures) c.serve_messages-end.ensures
