use Rattle.room_wire.proofs.Common.{◌≡◌, length, reverse, skip_ows}
use Rattle.room_wire.proofs.messages.last.trim_end.Given as goal

abbrev pub invariant-loop-s : goal.invariant-loop-s
invariant-loop-s l = skip_ows (reverse l.s) ≡ skip_ows (reverse l.fn.s)

abbrev pub decreases-loop-s : goal.decreases-loop-s
decreases-loop-s l = length l.s
