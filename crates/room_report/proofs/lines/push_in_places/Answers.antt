use Rattle.room_report.proofs.Common.{ℕ, ◌+◌, refl, ap, sym, ◌∙◌, List, [], ◌∷◌, ◌++◌, append_assoc, replicate}
use Rattle.room_report.proofs.Padding.{spaces_more}
use Rattle.room_report.proofs.lines.push_in_places.Goals as goal

pub loop-preserved : goal.loop-preserved
loop-preserved c =
    let front = c.args.buffer.now.items ++ c.args.text.now in
    let n = c.loop.counter in
    c.in_ok-push.ensures.items
    ∙ ap (λ (so_far : List ℕ). so_far ++ 32 ∷ []) c.loop.invariant
    ∙ append_assoc front (replicate {A = ℕ} n 32) (32 ∷ [])
    ∙ sym (ap (λ (spaces : List ℕ). front ++ spaces) (spaces_more n (n + 1) refl))
