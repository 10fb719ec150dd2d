use Rattle.room_wire.proofs.Common.{◌≡◌, ◌∷◌, ◌++◌, take, codes, flat_map, key, begin_array}
use Rattle.room_wire.proofs.Lemmas.Forms.Written.{name_tokens}
use Rattle.room_wire.proofs.forms.replies.names_member.Given as goal

abbrev pub invariant-loop-name : goal.invariant-loop-name
invariant-loop-name l = record {
  tokens : l.out.tokens
      ≡ l.fn.out.tokens
      ++ (key (codes "names") ∷ begin_array ∷ flat_map name_tokens (take l.name-index l.names));
  before : l.out.before ≡ l.fn.out.before;
}
