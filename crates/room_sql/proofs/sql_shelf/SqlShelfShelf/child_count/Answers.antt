use Rattle.room_sql.proofs.Common.{AreTrueOf, state, ◌≡◌, ◌∙◌, Err, sym, subst, not, ap, rules, length-map}
use Rattle.room_sql.proofs.Common.{IsChildCount, shown_node, count_children}
use Rattle.room_sql.proofs.Calls.{read_ok, read_asked}
use Rattle.room_sql.proofs.sql_shelf.SqlShelfShelf.child_count.Goals as goal

-- the count that is remembered is that of the rows
pub returns-in-Some-clause-value : goal.returns-in-Some-clause-value
returns-in-Some-clause-value g c available laid_out =
    subst (IsChildCount _ c.args.parent)
    (sym (c.in-Some.ensures.true_of _ laid_out.1.nodes ∙ sym (length-map _ shown_node)))
    (count_children _ c.args.parent laid_out.0.room)

pub returns-in_err-count-clause-frame : goal.returns-in_err-count-clause-frame
returns-in_err-count-clause-frame g c =
    let same : c.from_residual.result ≡ Err c.in_err-count.field-0.0 = search rules in
    rw (same ∙ sym c.in_err-count.was) (read_asked g.S.Store c.or_fault.result c.args.self.now.conn
    c.child_count-found.new.conn c.child_count-found.result c.or_fault.ensures.ok c.child_count-found.ensures.frame
    (c.is_autocommit-outside.ensures.settled (c.is_autocommit-outside.ensures.value ∙ ap not c.args.self.now.outside))
    c.or_fault.ensures.kept c.or_fault.ensures.forgotten c.or_fault.ensures.never_falls c.or_fault.ensures.quiet
    c.or_fault.ensures.counted)

pub returns-clause-value : goal.returns-clause-value
returns-clause-value g c available laid_out =
    subst (IsChildCount _ c.args.parent)
    (sym ((rw c.in_ok-count.ensures.ok at c.child_count-found.ensures.value) available.0 laid_out.0.room
    ∙ sym (length-map _ shown_node)))
    (count_children _ c.args.parent laid_out.0.room)

pub returns-clause-frame : goal.returns-clause-frame
returns-clause-frame g c =
    let fell = c.in_ok-count.ensures.quiet (λ is. absurd (let bad = is in cc)) in
    let found = rw c.in_ok-count.ensures.ok at c.child_count-found.ensures in
    rw fell (read_ok g.S.Store c.args.self.now.conn c.child_count-found.new.conn found.frame
    (λ clean room true_of.
    let was : AreTrueOf c.or_fault.new.known (state g.S.Store c.args.self.now.conn).now.trees =
    rw c.in_ok-count.ensures.kept true_of in
    record {
      nodes = c.keep_count.ensures _ was.nodes (found.value clean room.room);
      lists = was.lists;
    }))
