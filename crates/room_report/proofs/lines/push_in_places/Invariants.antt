use Rattle.room_report.proofs.Common.{◌≡◌, ◌++◌, replicate}
use Rattle.room_report.proofs.lines.push_in_places.Given as goal

-- the text, and the spaces so far
abbrev pub invariant-loop : goal.invariant-loop
invariant-loop l = l.buffer.items ≡ (l.fn.buffer.items ++ l.text) ++ replicate l.counter 32
