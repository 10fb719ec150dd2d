use Rattle.room_wire.proofs.Common.{◌≡◌, ◌*◌, ◌++◌, take, standard, encode_of}
use Rattle.room_wire.proofs.forms.letters.append_letters.Given as goal

abbrev pub invariant-loop-block : goal.invariant-loop-block
invariant-loop-block l = l.text.items ≡ l.fn.text.items ++ encode_of standard (take (192 * l.block) l.bytes)
