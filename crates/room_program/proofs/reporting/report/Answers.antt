use Rattle.room_program.proofs.Common.{inl, inr, refl}
use Rattle.room_program.proofs.Faults.{handed_on}
use Rattle.room_program.proofs.reporting.report.Goals as goal

pub returns : goal.returns
returns g c =
    let left = rw c.connection_under.ensures at c.give_up.ensures.given_up in
    inr (
      c.in_ok-roster.roster,
      c.roster_at.new.machine,
      c.in_ok-roster.ensures,
      inr (
        c.in_ok-shelf.shelf,
        c.write_report-done.new.shelf,
        c.take_room.new.machine,
        c.in_ok-shelf.ensures,
        c.write_report-done.ensures,
        left,
      ),
    )

pub returns-in_err-shelf : goal.returns-in_err-shelf
returns-in_err-shelf g c =
    inr (
      c.in_ok-roster.roster,
      c.roster_at.new.machine,
      c.in_ok-roster.ensures,
      inl (
        (
          c.in_err-shelf.field-0.0,
          handed_on _ _ c.from_residual-in_err-shelf.ensures.0 c.from_residual-in_err-shelf.ensures.1,
          c.in_err-shelf.ensures,
        ),
        refl,
      ),
    )
