use Rattle.room_cache.proofs.Common.{ap, sym, ◌∙◌, inl, inr, Some}
use Rattle.room_cache.proofs.Keys.{same_name}
use Rattle.room_cache.proofs.known.Known.keep_session.Goals as goal

pub returns-in-Ok-Ok : goal.returns-in-Ok-Ok
returns-in-Ok-Ok c = λ r is true_of. record {
  sessions = λ sid row held. elim (c.keep.ensures.rows sid row held) [
    | inl before ↦ true_of.sessions sid row before
    | inr now ↦ ap r.session (sym (same_name c.in-Ok-Ok.sid sid now.0) ∙ c.in-Ok-Ok.ensures) ∙ is
        ∙ ap Some (sym (now.1 ∙ c.in-Ok-Ok.ensures'))
  ];
  nodes = true_of.nodes;
  lists = true_of.lists;
  decisions = true_of.decisions;
  slots = true_of.slots;
  next = true_of.next;
}
