use Rattle.room_sql.proofs.Common.{AreTrueOf, ◌≡◌, ◌∙◌, Err, ap, not, rules, state}
use Rattle.room_sql.proofs.Calls.{read_ok, read_err}
use Rattle.room_sql.proofs.sql_shelf.SqlShelfShelf.entries.Goals as goal

pub returns-in_err-list-clause-frame : goal.returns-in_err-list-clause-frame
returns-in_err-list-clause-frame g c =
    let same : c.from_residual.result ≡ Err c.in_err-list.field-0.0 = search rules in
    rw same (read_err g.S.Store c.args.self.now.conn c.entries-found.new.conn c.entries-found.ensures.frame
    (c.is_autocommit-outside.ensures.settled (c.is_autocommit-outside.ensures.value ∙ ap not c.args.self.now.outside))
    c.in_err-list.ensures.forgotten c.or_fault.ensures.never_falls
    (λ other. c.in_err-list.ensures.quiet (λ is. other (let e = is in cc)))
    (λ is. c.in_err-list.ensures.counted (ap Err is)))

pub returns-clause-frame : goal.returns-clause-frame
returns-clause-frame g c =
    let fell = c.in_ok-list.ensures.quiet (λ is. absurd (let bad = is in cc)) in
    let found = rw c.in_ok-list.ensures.ok at c.entries-found.ensures in
    rw fell (read_ok g.S.Store c.args.self.now.conn c.entries-found.new.conn found.frame
    (λ clean room true_of.
    let was : AreTrueOf c.or_fault.new.known (state g.S.Store c.args.self.now.conn).now.trees =
    rw c.in_ok-list.ensures.kept true_of in
    record {
      nodes = was.nodes;
      lists = c.keep.ensures _ was.lists (found.stored clean room.room);
    }))
