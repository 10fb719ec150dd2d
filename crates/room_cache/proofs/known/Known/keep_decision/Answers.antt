use Rattle.room_cache.proofs.Common.{◌≡◌, ℕ, ap, sym, ◌∙◌, subst, inl, inr, List, [], unwrap_or, IsDecidedBy}
use Rattle.std.specs.List.{Contains}
use Rattle.room_cache.specs.declared.decisions.Decided.{Decided}
use Rattle.room_cache.proofs.Remembered.{was_taken, same_number}
use Rattle.room_cache.proofs.known.Known.keep_decision.Goals as goal

pub returns : goal.returns
returns c = λ r is true_of. record {
  sessions = true_of.sessions;
  nodes = true_of.nodes;
  lists = true_of.lists;
  decisions = λ id made held d in_made. elim (c.keep-2.ensures.rows id made held) [
    | inl before ↦ true_of.decisions id made (c.take.ensures.rest id made before).0 d in_made
    | inr now ↦
        let here : (c.args.id ≡ id) = same_number c.args.id id now.0 in
        let P : ℕ → Type 0 = λ k. IsDecidedBy (r.objects.entries k) d in
        let Q : List Decided → Type 0 = λ m. Contains m d in
        subst P here (elim (c.keep.ensures d (subst Q now.1 in_made)) [
          | inl was ↦
              let start : c.unwrap_or-made.result ≡ unwrap_or c.take.result [] =
              c.unwrap_or-made.ensures ∙ ap (unwrap_or c.take.result) c.new.ensures in
              let it = was_taken c.take.result d (subst Q start was) in
              true_of.decisions c.args.id it.0 (sym c.take.ensures.value ∙ it.1) d it.2
          | inr same ↦
              let R : Decided → Type 0 = λ x. IsDecidedBy (r.objects.entries c.args.id) x in
              subst R (sym same) is
        ])
  ];
  slots = true_of.slots;
  next = true_of.next;
}
