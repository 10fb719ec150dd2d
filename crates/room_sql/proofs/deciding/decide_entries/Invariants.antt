use Rattle.room_sql.proofs.Common.{◌≡◌, false, pos, List, [], ◌∷◌, length, Int, Row, HasCleanDisk, IsUnchanged}
use Rattle.room_sql.proofs.Common.{Survives, state, read_entries_text}
use Rattle.sqlite.specs.Given.{HasGiven}
use Rattle.room_sql.proofs.Decisions.{IsAfter}
use Rattle.room_sql.proofs.deciding.decide_entries.Given as goal

-- the connection is as it was, and the decision is what the rows so far leave of it
abbrev pub invariant-rows : goal.invariant-rows
invariant-rows g l =
    let old = state g.S.Store l.fn.conn in
    let now = state g.S.Store l.rows.conn.now in
    record {
      same_reference : l.rows.conn.ghost_name ≡ l.initial.rows.conn.ghost_name;
      survives : Survives old now (λ _. ⊥);
      same : HasCleanDisk now → IsUnchanged old now;
      mode : l.fn.conn.in_transaction ≡ false → l.rows.conn.now.in_transaction ≡ false;
      given : HasCleanDisk now → (rows : List Row)
          × HasGiven g.S.Store read_entries_text (Int (pos l.id) ∷ []) l.rows.conn.now rows
          × IsAfter l.subject l.standing l.fn.wanted rows l.pending × (length rows ≡ l.counter);
    }
