use Rattle.room_sql.proofs.Common.{◌≡◌, ◌∙◌, ap, sym, not, Err, rules}
use Rattle.room_records.proofs.Untouched.{untouched_by}
use Rattle.room_sql.proofs.Calls.{commit_err}
use Rattle.room_sql.proofs.sql_shelf.SqlShelfShelf.commit.Goals as goal

-- the tables hold what the changes make of them, whatever rules they keep
pub returns-clause-untouched : goal.returns-clause-untouched
returns-clause-untouched g c = λ clean laid_out.
    untouched_by c.args.changes.now _ _
    (((rw c.in_ok-or_fault.ensures.ok at (c.commit-done.ensures.ok clean)).1 laid_out.0.room laid_out.1.lists).1
    laid_out.0.room)

pub returns-in_err-or_fault-clause-frame : goal.returns-in_err-or_fault-clause-frame
returns-in_err-or_fault-clause-frame g c =
    let same : c.from_residual.result ≡ Err c.in_err-or_fault.field-0.0 = search rules in
    let told = c.in_err-or_fault.ensures in
    let settled = c.is_autocommit-outside.ensures.settled
    (c.is_autocommit-outside.ensures.value ∙ ap not c.args.self.now.outside) in
    rw same (commit_err g.S.Store c.args.self.now.conn c.commit-done.new.conn c.commit-done.ensures.stays
    c.commit-done.ensures.frame.was_open
    (λ clean is. (rw told.err.1 at (c.commit-done.ensures.err clean is))
    ∙ sym (settled (c.commit-done.ensures.frame.was_open clean is)))
    told.forgotten c.or_fault.ensures.never_falls (λ other. told.quiet (λ is. other (let e = is in cc)))
    (λ is. told.counted (ap Err is)))
