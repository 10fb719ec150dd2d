use Rattle.room_cache.proofs.Common.{◌≡◌, ◌+◌, ◌≤◌, ℕ, sym, ap, ◌∙◌, subst, List, ◌∷◌, drop, length, arith, Change}
use Rattle.room_cache.proofs.Common.{Known, IsLeft}
use Rattle.std.proofs.lemmas.List.{drop_more, drop_all}
use Rattle.room_cache.proofs.Left.{left_itself, left_in_turn, left_true}
use Rattle.room_cache.proofs.known.Known.forget_touched.Goals as goal

pub loop-change-preserved : goal.loop-change-preserved
loop-change-preserved c = λ later rest.
    let all = c.args.changes.now in
    let at = c.loop-change.change-index in
    let change = c.change-item.result in
    let cut : drop at all ≡ change ∷ drop (at + 1) all =
    drop_more all at change c.loop-change-test.true
    ∙ ap (λ (x : Change). x ∷ drop (at + 1) all) (sym c.change-item.is) in
    let P : List Change → Type 0 = λ changes. IsLeft changes c.loop-change.self later in
    c.loop-change.invariant later (subst P (sym cut) (left_in_turn change (drop (at + 1) all)
    c.loop-change.self c.forget.new.self later c.forget.ensures rest))

left : (changes : List Change) (at : ℕ) (start last : Known) → length changes ≤ at
    → ((later : Known) → IsLeft (drop at changes) last later → IsLeft changes start later) → IsLeft changes start last
left changes at start last end rest =
    let P : List Change → Type 0 = λ more. IsLeft more last last in
    rest last (subst P (sym (drop_all at changes end)) (left_itself last))

pub returns-clause-left : goal.returns-clause-left
returns-clause-left c = left c.args.changes.now c.loop-change.change-index c.args.self.now c.loop-change.self
    (omega (arith, c.loop-change-test.false)) c.loop-change.invariant

pub returns-clause-true_of : goal.returns-clause-true_of
returns-clause-true_of c = λ old new.
    left_true c.args.changes.now c.args.self.now c.loop-change.self old new
    (left c.args.changes.now c.loop-change.change-index c.args.self.now c.loop-change.self
    (omega (arith, c.loop-change-test.false)) c.loop-change.invariant)
