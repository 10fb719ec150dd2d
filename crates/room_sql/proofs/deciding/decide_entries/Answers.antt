use Rattle.room_sql.proofs.Common.{◌<◌, ◌≤◌, ◌-◌, ◌^◌, ℕ, ◌≡◌, rules, refl, sym, ◌∙◌, pos, [], ◌∷◌, ◌++◌, length-append}
use Rattle.room_sql.proofs.Common.{arith, Int, HasCleanDisk, IsUnchanged, state, unchanged_then, given_begin}
use Rattle.room_sql.proofs.Common.{read_entries_text, query_keeps, fails_leaves, read_entries_selects}
use Rattle.sqlite.specs.Given.{HasGiven}
use Rattle.room_tables.proofs.Onward.{query_begins, fails_on}
use Rattle.room_sql.specs.Faults.{FailsToReadEntries}
use Rattle.room_sql.proofs.Decisions.{frame_same, frame_failed, survives_on, taken, stopped, ended, given_few}
use Rattle.room_sql.proofs.Decisions.{last_shows}
use Rattle.room_sql.proofs.Frames.{was_clean, handed_on}
use Rattle.room_sql.proofs.deciding.decide_entries.Goals as goal

-- ---- the query was refused

pub returns-in_err-rows-clause-frame : goal.returns-in_err-rows-clause-frame
returns-in_err-rows-clause-frame g c =
    let refused = rw c.in_err-rows.was at c.query.follows.holds-at-none in
    frame_failed c.from_residual.ensures.0 (query_keeps read_entries_text _ _ _ read_entries_selects refused.survives)
    refused.mode (λ clean. fails_leaves read_entries_text _ _ _ _ (refused.err clean))

-- ---- the rows

pub rows-init : goal.rows-init
rows-init g c =
    let made = c.in_ok-rows.ensures in
    let old = c.args.conn.now in
    let new = c.in_ok-rows.rows.conn.now in
    let begun : HasCleanDisk (state g.S.Store new) → HasGiven g.S.Store read_entries_text (Int (pos c.args.id) ∷ [])
    new [] × IsUnchanged (state g.S.Store old) (state g.S.Store new) =
    λ clean. query_begins g.S.Store read_entries_text (Int (pos c.args.id) ∷ []) old new
    read_entries_selects (rw c.params-to_sql.ensures at (made.begun clean)) in record {
      same_reference = refl;
      survives = query_keeps read_entries_text _ _ _ read_entries_selects made.survives;
      same = λ clean. (begun clean).1;
      mode = made.mode;
      given = λ clean. ([], (begun clean).0, record { answers = c.new-pending.ensures.answers }, refl);
    }

pub rows-preserved : goal.rows-preserved
rows-preserved g c =
    let moved = c.next.follows.holds-at-none in
    let inv = c.rows.invariant in record {
      same_reference = moved.same_reference ∙ inv.same_reference;
      survives = survives_on inv.survives moved.survives;
      same = λ late.
          unchanged_then _ _ _ (inv.same (was_clean moved.survives late)) (rw c.in_ok-row.was at (moved.same late));
      mode = λ off. moved.mode (inv.mode off);
      given = λ late.
          let was = inv.given (was_clean moved.survives late) in
          let row = c.in-Some.row.now in (
            was.0 ++ row ∷ [],
            (rw (c.in_ok-row.was, c.in-Some.is) at (moved.ok late)) read_entries_text (Int (pos c.args.id) ∷ [])
                was.0 was.1,
            taken was.0 row was.2 c.in_ok-entry.ensures.value c.take.ensures.answers,
            (let long = length-append was.0 (row ∷ []) in let were = was.3 in omega (arith, long, were)),
          );
    }

-- ---- nothing is left

pub returns-then-bits-eq0-clause-frame : goal.returns-then-bits-eq0-clause-frame
returns-then-bits-eq0-clause-frame g c =
    let end : c.rows.rows.conn.now ≡ c.conn-then-bits-eq0-1.given.0 = search rules in
    rw (← end) (frame_same c.rows.invariant.survives c.rows.invariant.mode c.rows.invariant.same)

pub returns-then-bits-eq0-clause-value : goal.returns-then-bits-eq0-clause-value
returns-then-bits-eq0-clause-value g c clean room =
    let end : c.rows.rows.conn.now ≡ c.conn-then-bits-eq0-1.given.0 = search rules in
    let late = rw (← end) at clean in
    let was = c.rows.invariant.given late in
    let zero : c.rows.pending.left ≡ 0 = sym c.left.ensures.left ∙ sym c.bits.ensures.value ∙ c.if-bits-eq0.true in
    c.end.ensures c.args.subject.now c.args.standing.now
    ∙ stopped c.args.id was.0 room c.schema-live.ensures.live (c.rows.invariant.same late) was.2
    (given_begin g.S.Store read_entries_text (Int (pos c.args.id) ∷ []) c.rows.rows.conn.now was.0 was.1)
    (λ entries. c.left.ensures.none zero entries c.args.subject.now c.args.standing.now)

-- ---- the next row could not be read

pub returns-in_err-row-clause-frame : goal.returns-in_err-row-clause-frame
returns-in_err-row-clause-frame g c =
    let moved = c.next.follows.holds-at-none in
    let end : c.next.follows.lender-at-none.conn.now ≡ c.conn-in_err-row-1.given.0 = search rules in
    rw (← end) (frame_failed c.from_residual-in_err-row.ensures.0 (survives_on c.rows.invariant.survives moved.survives)
    (λ off. moved.mode (c.rows.invariant.mode off)) (λ late.
    let early = was_clean moved.survives late in
    let was = c.rows.invariant.given early in
    fails_leaves read_entries_text _ _ _ _
    (fails_on read_entries_text _ _ _ _ _ _ read_entries_selects (c.rows.invariant.same early) c.rows.invariant.survives
    ((rw c.in_err-row.was at (moved.err late)) read_entries_text (Int (pos c.args.id) ∷ []) was.0 was.1))))

pub returns-in_err-row-clause-told : goal.returns-in_err-row-clause-told
returns-in_err-row-clause-told g c clean room are =
    let moved = c.next.follows.holds-at-none in
    let end : c.next.follows.lender-at-none.conn.now ≡ c.conn-in_err-row-1.given.0 = search rules in
    let late = rw (← end) at clean in
    let early = was_clean moved.survives late in
    let was = c.rows.invariant.given early in
    rw (← end) (handed_on (FailsToReadEntries c.args.id (state g.S.Store c.args.conn.now)
    (state g.S.Store c.next.follows.lender-at-none.conn.now)) c.from_residual-in_err-row.result _
    c.from_residual-in_err-row.ensures.1 (λ other.
    fails_on read_entries_text _ _ _ _ _ _ read_entries_selects (c.rows.invariant.same early) c.rows.invariant.survives
    ((rw c.in_err-row.was at (moved.err late)) read_entries_text (Int (pos c.args.id) ∷ []) was.0 was.1)))

-- ---- no row is left

pub returns-in_default-clause-frame : goal.returns-in_default-clause-frame
returns-in_default-clause-frame g c =
    let moved = c.next.follows.holds-at-none in
    let end : c.next.follows.lender-at-none.conn.now ≡ c.conn-in_default-1.given.0 = search rules in
    rw (← end) (frame_same (survives_on c.rows.invariant.survives moved.survives)
    (λ off. moved.mode (c.rows.invariant.mode off)) (λ late. unchanged_then _ _ _
    (c.rows.invariant.same (was_clean moved.survives late)) (rw c.in_ok-row.was at (moved.same late))))

pub returns-in_default-clause-value : goal.returns-in_default-clause-value
returns-in_default-clause-value g c clean room =
    let moved = c.next.follows.holds-at-none in
    let end : c.next.follows.lender-at-none.conn.now ≡ c.conn-in_default-1.given.0 = search rules in
    let late = rw (← end) at clean in
    let early = was_clean moved.survives late in
    let was = c.rows.invariant.given early in
    c.end-in_default.ensures c.args.subject.now c.args.standing.now
    ∙ ended c.args.id was.0 room c.schema-live.ensures.live (c.rows.invariant.same early) was.2 _
    ((rw (c.in_ok-row.was, c.in_default.is) at (moved.ok late)) read_entries_text (Int (pos c.args.id) ∷ [])
    was.0 was.1)

-- ---- the row is no entry

pub returns-in_err-entry-clause-frame : goal.returns-in_err-entry-clause-frame
returns-in_err-entry-clause-frame g c =
    let moved = c.next.follows.holds-at-none in
    let end : c.next.follows.lender-at-none.conn.now ≡ c.conn-in_err-entry-1.given.0 = search rules in
    rw (← end) (frame_same (survives_on c.rows.invariant.survives moved.survives)
    (λ off. moved.mode (c.rows.invariant.mode off)) (λ late. unchanged_then _ _ _
    (c.rows.invariant.same (was_clean moved.survives late)) (rw c.in_ok-row.was at (moved.same late))))

pub returns-in_err-entry-clause-told : goal.returns-in_err-entry-clause-told
returns-in_err-entry-clause-told g c clean room are =
    let moved = c.next.follows.holds-at-none in
    let end : c.next.follows.lender-at-none.conn.now ≡ c.conn-in_err-entry-1.given.0 = search rules in
    let late = rw (← end) at clean in
    let early = was_clean moved.survives late in
    let was = c.rows.invariant.given early in
    let row = c.in-Some.row.now in
    let shows = last_shows c.args.id was.0 row room c.schema-live.ensures.live
    (unchanged_then _ _ _ (c.rows.invariant.same early) (rw c.in_ok-row.was at (moved.same late)))
    (given_begin g.S.Store read_entries_text (Int (pos c.args.id) ∷ []) c.next.follows.lender-at-none.conn.now _
    ((rw (c.in_ok-row.was, c.in-Some.is) at (moved.ok late)) read_entries_text (Int (pos c.args.id) ∷ []) was.0 was.1))
    are in
    handed_on (FailsToReadEntries c.args.id (state g.S.Store c.args.conn.now)
    (state g.S.Store c.conn-in_err-entry-1.given.0)) c.from_residual-in_err-entry.result _
    c.from_residual-in_err-entry.ensures.1
    (λ other. absurd (c.in_err-entry.ensures.told other shows))

-- ---- so many rows

pub returns-clause-frame : goal.returns-clause-frame
returns-clause-frame g c =
    let end : c.rows.rows.conn.now ≡ c.conn-2-1.given.0 = search rules in
    rw (← end) (frame_same c.rows.invariant.survives c.rows.invariant.mode c.rows.invariant.same)

-- fewer rows than the loop's end, and as many
never_so_many : (n counter : ℕ) → n < 2 ^ 64 - 1 → n ≡ counter → 2 ^ 64 - 1 ≤ counter → ⊥
never_so_many n counter few same all = omega (arith, few, same, all)

pub returns-clause-told : goal.returns-clause-told
returns-clause-told g c clean room are other =
    let all : 2 ^ 64 - 1 ≤ c.rows.counter = omega (arith, c.rows.auto.counter-end, c.rows-test.false) in
    let end : c.rows.rows.conn.now ≡ c.conn-2-1.given.0 = search rules in
    let late = rw (← end) at clean in
    let was = c.rows.invariant.given late in
    absurd (never_so_many _ _ (given_few c.args.id was.0 room c.schema-live.ensures.live (c.rows.invariant.same late)
    (given_begin g.S.Store read_entries_text (Int (pos c.args.id) ∷ []) c.rows.rows.conn.now was.0 was.1) are)
    was.3 all)
