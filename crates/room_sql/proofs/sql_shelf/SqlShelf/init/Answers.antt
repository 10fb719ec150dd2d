use Rattle.room_sql.proofs.Common.{◌≡◌, false, rules, subst, HasCleanDisk, state, has_a_table}
use Rattle.room_sql.proofs.sql_shelf.SqlShelf.init.Goals as goal

-- the shelf holds the connection in which the room was made
pub returns-in-Ok-clause-fresh : goal.returns-in-Ok-clause-fresh
returns-in-Ok-clause-fresh g c clean =
    let same = c.over.ensures.new.0 in
    rw same (c.in-Ok.ensures.ok (subst (λ h. HasCleanDisk (state g.S.Store h)) same clean))

pub returns-in-Ok-clause-beside : goal.returns-in-Ok-clause-beside
returns-in-Ok-clause-beside g c clean =
    let same = c.over.ensures.new.0 in
    let none : has_a_table c.args.connection.schema ≡ false = search rules in
    rw same (c.in-Ok.ensures.spares (subst (λ h. HasCleanDisk (state g.S.Store h)) same clean) none)
