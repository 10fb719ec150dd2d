use Rattle.room_wire.proofs.Common.{◌≡◌, ◌∷◌, ◌++◌, take, codes, flat_map, AllByRecursion, key, begin_array, IsEntry}
use Rattle.room_wire.proofs.Lemmas.Forms.Written.{entry_tokens}
use Rattle.room_wire.proofs.forms.writing.entries_member.Given as goal

abbrev pub invariant-loop-entry : goal.invariant-loop-entry
invariant-loop-entry l = record {
  tokens : l.out.tokens
      ≡ l.fn.out.tokens
      ++ (key (codes "entries") ∷ begin_array ∷ flat_map entry_tokens (take l.entry-index l.entries));
  before : l.out.before ≡ l.fn.out.before;
  lawful : AllByRecursion IsEntry (take l.entry-index l.entries);
}
