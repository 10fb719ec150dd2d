use Rattle.room_program.proofs.host.keep.Goals as goal

pub returns : goal.returns
returns g c =
    let out = c.store_in.ensures in
    (out.live, record { closed = record { quiet = out.quiet; sound = out.sound }; numbered = out.numbered })
