use Rattle.room_program.proofs.replaying.serve_to_end.Goals as goal

pub returns : goal.returns
returns g c = λ start past stand.
    let run = c.serve-end.ensures.run tt start past (λ _. (tt, stand)) in
    (c.serve-end.result.why, c.serve-end.result.count, run.0, c.done_of.ensures, run.1)
