use Rattle.room_sql.proofs.Common.{◌∙◌, ap, not}
use Rattle.room_sql.proofs.Calls.{read_asked}
use Rattle.room_sql.proofs.sql_shelf.SqlShelfShelf.children.Goals as goal

pub returns-clause-frame : goal.returns-clause-frame
returns-clause-frame g c =
    read_asked g.S.Store c.or_fault.result c.args.self.now.conn c.children-found.new.conn
    c.children-found.result c.or_fault.ensures.ok c.children-found.ensures.frame
    (c.is_autocommit-outside.ensures.settled (c.is_autocommit-outside.ensures.value ∙ ap not c.args.self.now.outside))
    c.or_fault.ensures.kept c.or_fault.ensures.forgotten c.or_fault.ensures.never_falls c.or_fault.ensures.quiet
    c.or_fault.ensures.counted
