use Rattle.room_sql.proofs.Common.{◌∙◌, inl, inr, not, true≢false, sym, ap, HasCleanDisk, state, survives_then}
use Rattle.room_sql.proofs.Common.{survives_weaker, IsVersion}
use Rattle.room_sql.specs.Taken.{MayBeTaken, SaysFirst}
use Rattle.room_sql.proofs.Frames.{was_clean}
use Rattle.room_sql.proofs.Taken.{says, second_version, first_version, no_second_version, no_first_version, no_version}
use Rattle.room_sql.proofs.sql_shelf.SqlShelf.adopt.Given.{Over}
use Rattle.room_sql.proofs.sql_shelf.SqlShelf.adopt.Goals as goal

-- ---- no room, or one of version 2

pub returns-then-not-has_first_room-clause-no_version : goal.returns-then-not-has_first_room-clause-no_version
returns-then-not-has_first_room-clause-no_version g c is clean =
    no_version _ (sym c.has_room-has_kept.ensures ∙ c.if-not-has_kept.true)
    (sym c.has_first_room.ensures ∙ c.if-not-has_first_room.true)

pub returns-then-is_version_2-clause-taken : goal.returns-then-is_version_2-clause-taken
returns-then-is_version_2-clause-taken g c clean =
    let same = c.over.ensures.new.0 in
    let frame = c.in-Ok.ensures.frame in
    let late = rw same at clean in
    let told = rw c.as_slice.ensures.value at (c.is_version_2.ensures.0 c.if-is_version_2.true) in
    rw same (
      (frame.answered late).0,
      inl (record {
        tables = sym c.has_room-has_kept.ensures ∙ c.if-has_kept.true;
        version = (c.in-Ok.rows.items, c.in-Ok.ensures.shown late, told);
        same = (frame.answered late).1;
      }),
    )

pub returns-then-is_version_2-clause-version : goal.returns-then-is_version_2-clause-version
returns-then-is_version_2-clause-version g c clean =
    let told = rw c.as_slice.ensures.value at (c.is_version_2.ensures.0 c.if-is_version_2.true) in
    second_version _ (state g.S.Store c.version_rows.new.conn) (sym c.has_room-has_kept.ensures ∙ c.if-has_kept.true)
    (c.in-Ok.rows.items, c.in-Ok.ensures.shown (rw c.over.ensures.new.0 at clean), told)

pub returns-then-is_version_2-clause-again : goal.returns-then-is_version_2-clause-again
returns-then-is_version_2-clause-again g c has =
    let frame = c.in-Ok.ensures.frame in
    rw c.over.ensures.new.0 (record { same = λ clean is. (frame.answered clean).1; crash = frame.crash })

pub returns-then-is_version_2-clause-kept : goal.returns-then-is_version_2-clause-kept
returns-then-is_version_2-clause-kept g c =
    let old = state g.S.Store c.args.connection in
    rw c.over.ensures.new.0 (survives_weaker old _ (λ _. ⊥) (MayBeTaken old) (λ clean db none. absurd none)
    c.in-Ok.ensures.frame.crash)

-- ---- another version

pub returns-then-has_kept-clause-no_second : goal.returns-then-has_kept-clause-no_second
returns-then-has_kept-clause-no_second g c is kept clean = (
  c.in-Ok.rows.items,
  c.in-Ok.ensures.shown clean,
  rw (← c.as_slice.ensures.value)
      (λ told. true≢false (sym (c.is_version_2.ensures.1 told) ∙ c.if-is_version_2.false)),
)

pub returns-then-has_kept-clause-no_version : goal.returns-then-has_kept-clause-no_version
returns-then-has_kept-clause-no_version g c is clean =
    let has = sym c.has_room-has_kept.ensures ∙ c.if-has_kept.true in
    no_second_version _ (state g.S.Store c.version_rows.new.conn) has
    (returns-then-has_kept-clause-no_second g c is has clean)

pub returns-then-has_kept-clause-left : goal.returns-then-has_kept-clause-left
returns-then-has_kept-clause-left g c why =
    let frame = c.in-Ok.ensures.frame in
    record { same = λ clean is. (frame.answered clean).1; crash = frame.crash }

pub returns-then-not-is_version_1-clause-no_first : goal.returns-then-not-is_version_1-clause-no_first
returns-then-not-is_version_1-clause-no_first g c is none slot clean = (
  c.in-Ok.rows.items,
  c.in-Ok.ensures.shown clean,
  rw (← c.as_slice-2.ensures.value)
      (λ told. true≢false (sym (c.is_version_1.ensures.1 told) ∙ c.if-not-is_version_1.true)),
)

pub returns-then-not-is_version_1-clause-no_version : goal.returns-then-not-is_version_1-clause-no_version
returns-then-not-is_version_1-clause-no_version g c is clean =
    no_first_version _ (state g.S.Store c.version_rows.new.conn)
    (sym c.has_room-has_kept.ensures ∙ c.if-has_kept.false) (
      c.in-Ok.rows.items,
      c.in-Ok.ensures.shown clean,
      rw (← c.as_slice-2.ensures.value)
          (λ told. true≢false (sym (c.is_version_1.ensures.1 told) ∙ c.if-not-is_version_1.true)),
    )

pub returns-then-not-is_version_1-clause-left : goal.returns-then-not-is_version_1-clause-left
returns-then-not-is_version_1-clause-left g c why =
    let frame = c.in-Ok.ensures.frame in
    record { same = λ clean is. (frame.answered clean).1; crash = frame.crash }

-- ---- version 1: it was upgraded

first : (g : Over) (c : goal.After-drop-rows-in-Ok-upgrade g) → HasCleanDisk (state g.S.Store c.version_rows.new.conn)
    → SaysFirst (state g.S.Store c.args.connection)
first g c early = record {
  no_second = sym c.has_room-has_kept.ensures ∙ c.if-has_kept.false;
  tables = elim c.else-not-has_kept.branch [
    | goal.else-not-has_kept-via-then-not-has_kept+else-not-has_first_room w ↦
        sym w.has_first_room.ensures ∙ w.if-not-has_first_room.false
    | goal.else-not-has_kept-via-else-not-has_kept w ↦
        absurd (true≢false (sym w.if-not-has_kept.false ∙ c.if-has_kept.false))
  ];
  version = says _ _ c.in-Ok.rows.items (IsVersion 1) (c.in-Ok.ensures.shown early)
      (rw c.as_slice-2.ensures.value at (c.is_version_1.ensures.0 c.if-not-is_version_1.false));
}

pub returns-in-Ok-upgrade-clause-taken : goal.returns-in-Ok-upgrade-clause-taken
returns-in-Ok-upgrade-clause-taken g c clean =
    let same = c.over-in-Ok-upgrade.ensures.new.0 in
    let late = rw same at clean in
    let early = was_clean c.upgrade.ensures.frame.crash late in
    let now = (c.in-Ok.ensures.frame.answered early).1 in
    let done = c.in-Ok-upgrade.ensures.ok late in
    rw same (done.0, inr (first g c early, λ room. rw now at (done.1 (rw now room))))

pub returns-in-Ok-upgrade-clause-version : goal.returns-in-Ok-upgrade-clause-version
returns-in-Ok-upgrade-clause-version g c clean = first_version _
    (first g c (was_clean c.upgrade.ensures.frame.crash (rw c.over-in-Ok-upgrade.ensures.new.0 at clean)))

pub returns-in-Ok-upgrade-clause-kept : goal.returns-in-Ok-upgrade-clause-kept
returns-in-Ok-upgrade-clause-kept g c =
    let old = state g.S.Store c.args.connection in
    rw c.over-in-Ok-upgrade.ensures.new.0
    (survives_then old _ _ _ _ (MayBeTaken old) (λ clean db none. absurd none)
    (λ clean db may.
    let early = was_clean c.upgrade.ensures.frame.crash clean in
    (first g c early, rw (c.in-Ok.ensures.frame.answered early).1 at may))
    c.in-Ok.ensures.frame.crash c.upgrade.ensures.frame.crash)

-- ---- or it was not

unchanged_first : (g : Over) (c : goal.After-drop-rows-2 g) → HasCleanDisk (state g.S.Store c.version_rows.new.conn)
    → SaysFirst (state g.S.Store c.args.connection)
unchanged_first g c early = record {
  no_second = sym c.has_room-has_kept.ensures ∙ c.if-has_kept.false;
  tables = elim c.else-not-has_kept.branch [
    | goal.else-not-has_kept-via-then-not-has_kept+else-not-has_first_room w ↦
        sym w.has_first_room.ensures ∙ w.if-not-has_first_room.false
    | goal.else-not-has_kept-via-else-not-has_kept w ↦
        absurd (true≢false (sym w.if-not-has_kept.false ∙ c.if-has_kept.false))
  ];
  version = says _ _ c.in-Ok.rows.items (IsVersion 1) (c.in-Ok.ensures.shown early)
      (rw c.as_slice-2.ensures.value at (c.is_version_1.ensures.0 c.if-not-is_version_1.false));
}

pub returns-clause-refused : goal.returns-clause-refused
returns-clause-refused g c =
    let old = state g.S.Store c.args.connection in
    survives_then old _ _ _ _ (MayBeTaken old) (λ clean db none. absurd none)
    (λ clean db may.
    let early = was_clean c.upgrade.ensures.frame.crash clean in
    (unchanged_first g c early, rw (c.in-Ok.ensures.frame.answered early).1 at may))
    c.in-Ok.ensures.frame.crash c.upgrade.ensures.frame.crash

pub returns-clause-failed : goal.returns-clause-failed
returns-clause-failed g c = elim c.open_fault-in-Err-upgrade.ensures [
  | inl memory ↦ inr (inl memory.0)
  | inr fault ↦ inr (inr fault.0)
]

pub returns-clause-left : goal.returns-clause-left
returns-clause-left g c (inl has) =
    absurd (true≢false (sym has ∙ sym c.has_room-has_kept.ensures ∙ c.if-has_kept.false))
returns-clause-left g c (inr is) = absurd (elim c.open_fault-in-Err-upgrade.ensures [
  | inl memory ↦ let bad = sym is ∙ memory.0 in cc
  | inr fault ↦ let bad = sym is ∙ fault.0 in cc
])

pub returns-clause-unchanged : goal.returns-clause-unchanged
returns-clause-unchanged g c clean is =
    let early = was_clean c.upgrade.ensures.frame.crash clean in
    let frame = c.in-Ok.ensures.frame in
    let outside = c.is_autocommit-still_outside.ensures.value ∙ ap not (frame.mode c.requires) in
    let settled = c.is_autocommit-still_outside.ensures.settled outside (c.upgrade.ensures.frame.was_open clean is) in
    c.in-Err-upgrade.ensures.err clean is settled ∙ (frame.answered early).1
