use Rattle.room_sql.proofs.Common.{AreTrueOf, state, ◌≡◌, ◌∙◌, Err, sym, subst, not, ap, rules, AreNames, are_names}
use Rattle.room_sql.proofs.Calls.{read_ok, read_asked}
use Rattle.room_sql.proofs.sql_shelf.SqlShelfShelf.names.Goals as goal

-- the names that are remembered are those of the rows
pub returns-in-Some-clause-value : goal.returns-in-Some-clause-value
returns-in-Some-clause-value g c available laid_out =
    let it = c.in-Some.ensures.true_of _ laid_out.1.nodes in
    subst (AreNames _ c.args.parent)
    (sym (c.in_ok-copy_names.ensures ∙ c.as_slice.ensures.value ∙ c.names.ensures ∙ it.2))
    (are_names _ c.args.parent it.0 laid_out.0.room it.1)

pub returns-in_err-names-clause-frame : goal.returns-in_err-names-clause-frame
returns-in_err-names-clause-frame g c =
    let same : c.from_residual-in_err-names.result ≡ Err c.in_err-names.field-0.0 = search rules in
    rw (same ∙ sym c.in_err-names.was) (read_asked g.S.Store c.or_fault.result c.args.self.now.conn
    c.names-found.new.conn c.names-found.result c.or_fault.ensures.ok c.names-found.ensures.frame
    (c.is_autocommit-outside.ensures.settled (c.is_autocommit-outside.ensures.value ∙ ap not c.args.self.now.outside))
    c.or_fault.ensures.kept c.or_fault.ensures.forgotten c.or_fault.ensures.never_falls c.or_fault.ensures.quiet
    c.or_fault.ensures.counted)

pub returns-clause-value : goal.returns-clause-value
returns-clause-value g c available laid_out =
    let it = (rw c.in_ok-names.ensures.ok at c.names-found.ensures.value) available.0 laid_out.0.room in
    subst (AreNames _ c.args.parent) (sym it.2) (are_names _ c.args.parent it.0 laid_out.0.room it.1)

pub returns-clause-frame : goal.returns-clause-frame
returns-clause-frame g c =
    let fell = c.in_ok-names.ensures.quiet (λ is. absurd (let bad = is in cc)) in
    let found = rw c.in_ok-names.ensures.ok at c.names-found.ensures in
    rw fell (read_ok g.S.Store c.args.self.now.conn c.names-found.new.conn found.frame
    (λ clean room true_of.
    let was : AreTrueOf c.or_fault.new.known (state g.S.Store c.args.self.now.conn).now.trees =
    rw c.in_ok-names.ensures.kept true_of in
    record {
      nodes = c.keep_names.ensures _ was.nodes (found.value clean room.room);
      lists = was.lists;
    }))
