use Rattle.room_sql.proofs.Common.{◌∙◌, ap, not, last_tables}
use Rattle.room_sql.proofs.Calls.{read, read_asked}
use Rattle.room_sql.proofs.sql_shelf.SqlShelfShelf.next_id.Goals as goal

pub returns-clause-frame : goal.returns-clause-frame
returns-clause-frame g c =
    read_asked g.S.Store c.or_fault.result c.args.self.now.conn c.next_id-found.new.conn
    c.next_id-found.result c.or_fault.ensures.ok c.next_id-found.ensures.frame
    (c.is_autocommit-outside.ensures.settled (c.is_autocommit-outside.ensures.value ∙ ap not c.args.self.now.outside))
    c.or_fault.ensures.kept c.or_fault.ensures.forgotten c.or_fault.ensures.never_falls c.or_fault.ensures.quiet
    c.or_fault.ensures.counted

pub returns-clause-value : goal.returns-clause-value
returns-clause-value g c available laid_out =
    read _ c.or_fault.ensures.ok (λ found is. (rw is at c.next_id-found.ensures.value) available.0
    (last_tables laid_out.0.room.layout) laid_out.0.room.schema)
