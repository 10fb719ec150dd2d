use Rattle.room_sql.proofs.Common.{refl}
use Rattle.room_sql.proofs.Frames.{was_clean, inside_ok, inside_then, inside_err}
use Rattle.room_sql.proofs.renewing.renew_entries.Goals as goal

pub loop-place-preserved : goal.loop-place-preserved
loop-place-preserved g c =
    let inv = c.loop-place.invariant in
    record {
      within = c.in_ok-place.ensures.within;
      frame = inside_then inv.frame (inside_ok refl c.in_ok-place.ensures.frame);
      done = λ clean records was. c.in_ok-place.ensures.ok clean records
          (inv.done (was_clean c.renew_from.ensures.frame.crash clean) records was);
    }

pub returns-in_err-place-clause-frame : goal.returns-in_err-place-clause-frame
returns-in_err-place-clause-frame g c =
    inside_err c.from_residual.ensures.0 (inside_then c.loop-place.invariant.frame c.in_err-place.ensures.frame)
