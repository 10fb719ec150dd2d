use Rattle.room_program.proofs.Common.{◌∙◌, ap, sym, refl, true≢false, inr, Some, Err}
use Rattle.room_program.specs.declared.fault.Fault.TheVariants.{BadRoster, Memory}
use Rattle.room_program.proofs.rosters.renew_by.Goals as goal

pub returns-in-Err-Memory : goal.returns-in-Err-Memory
returns-in-Err-Memory g c =
    let warned = rw c.line.ensures at c.warn.ensures.warned in
    inr (
      λ same. true≢false (sym (c.is_known.ensures.1 (ap Some c.as_str.ensures.value ∙ same)) ∙ c.if-is_known.false),
      inr (Memory, tt, refl, warned),
    )

pub returns-in-Err-Bad : goal.returns-in-Err-Bad
returns-in-Err-Bad g c =
    let e = c.in-Err-Bad in
    let warned = rw c.line-in-Err-Bad.ensures at c.warn-in-Err-Bad.ensures.warned in
    let bad = rw c.as_str-2.ensures.value at e.ensures.bad (ap Err e.field-0-is) in
    inr (
      λ same. true≢false (sym (c.is_known.ensures.1 (ap Some c.as_str.ensures.value ∙ same)) ∙ c.if-is_known.false),
      inr (BadRoster, bad, refl, warned),
    )
