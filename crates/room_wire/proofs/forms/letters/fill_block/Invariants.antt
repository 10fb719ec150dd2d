use Rattle.room_wire.proofs.Common.{◌≡◌, ◌*◌, length, take, standard, encode_of}
use Rattle.room_wire.proofs.forms.letters.fill_block.Given as goal

abbrev pub invariant-loop-six : goal.invariant-loop-six
invariant-loop-six l = record {
  letters : take (8 * l.six) l.block ≡ encode_of standard (take (6 * l.six) l.bytes);
  long : length l.block ≡ 256;
}
