use Rattle.room_program.proofs.instance.open.Goals as goal

pub returns-in-Ok-clause-found : goal.returns-in-Ok-clause-found
returns-in-Ok-clause-found g c = λ clean.
    let found = c.in-Ok.ensures.found clean in
    (c.in-Ok.ensures.opened clean, record { holds = found.holds; reads = found.reads }, c.in-Ok.ensures.plain clean)
