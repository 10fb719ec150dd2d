use Rattle.std.proofs.Common.{map, take}
use Rattle.room_slots.specs.Accepted.{accepted}
use Rattle.room_slots.proofs.Trials.{Holds}
use Rattle.room_slots.proofs.trial.run_trial.Given as goal

abbrev pub invariant-loop-seq : goal.invariant-loop-seq
invariant-loop-seq l =
    Holds l.trial (accepted (map (λ p. record { seq = p.0; bytes = p.1.items }) (take l.seq-index l.pieces)))
