use Rattle.room_program.proofs.Common.{inr, refl, true, false}
use Rattle.room_program.proofs.Opened.{reads_first, leaves_first}
use Rattle.room_program.proofs.host.open.Goals as goal

-- what is opened is a store over what the files held
pub returns-in-Ok : goal.returns-in-Ok
returns-in-Ok g c = (
  λ clean. (c.in-Ok.ensures.opened clean, c.in-Ok.ensures.found clean, c.in-Ok.ensures.sums clean),
  refl,
)

-- and what is left of them is known, as they were just opened
pub returns-in-Err-default-Some : goal.returns-in-Err-default-Some
returns-in-Err-default-Some g c =
    let e = c.in-Err-default-Some in
    let (files, log_is, db_is, so) = rw e.field-0-1-is at e.ensures.cause in
    let log = g.S.Start.log in
    let db = g.S.Start.db in
    let log_read =
    reads_first log db files.log.is_log true log_is.0 files.log.calls.log.events files.log.key log_is.1 in
    let db_read = reads_first log db files.db.is_log false db_is.0 files.db.calls.log.events files.db.key db_is.1 in
    inr (
      e.rest,
      (
        files,
        record {
          shown = λ i. record { log = log_read i; db = db_read i };
          alone = λ left (log_may, db_may).
              let log_left = leaves_first log db files.log.is_log true log_is.0 files.log.calls.log.events
              files.log.key log_is.1 g.S.Start.is_mixing left.log log_may in
              let db_left = leaves_first log db files.db.is_log false db_is.0 files.db.calls.log.events
              files.db.key db_is.1 g.S.Start.is_mixing left.db db_may in
              λ i. record { log = log_left i; db = db_left i };
        },
        so,
      ),
      refl,
    )
