use Rattle.std.specs.Prelude.{not}
use Rattle.room_program.proofs.Common.{◌∙◌, ap, refl, inr}
use Rattle.room_program.specs.declared.fault.Fault.TheVariants.{CannotReadRoster, Memory}
use Rattle.room_program.proofs.Texts.{was_read}
use Rattle.room_program.proofs.rosters.renew_unread.Goals as goal

pub returns-then-eq : goal.returns-then-eq
returns-then-eq g c =
    let warned = rw c.line.ensures at c.warn.ensures.warned in
    inr (was_read c.args.known.text (c.is_none.ensures ∙ ap not c.if-is_none.false), inr (Memory, tt, refl, warned))

pub returns : goal.returns
returns g c =
    let warned = rw c.line-2.ensures at c.warn-2.ensures.warned in inr (
      was_read c.args.known.text (c.is_none.ensures ∙ ap not c.if-is_none.false),
      inr (CannotReadRoster, tt, refl, warned),
    )
