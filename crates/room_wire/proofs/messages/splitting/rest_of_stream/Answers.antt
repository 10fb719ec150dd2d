use Rattle.room_wire.proofs.Common.{◌++◌, ◌∷◌, [], sym, ◌∙◌, arith, inl, inr, take_rest}
use Rattle.room_wire.proofs.Lemmas.Messages.Fronts.{reads_shorter}
use Rattle.room_wire.proofs.Lemmas.Serving.Joins.{never_none}
use Rattle.room_wire.proofs.Lemmas.Serving.Rounds.{shown_last, ends}
use Rattle.room_wire.proofs.Lemmas.Messages.Streams.{follows_then, follows_one}
use Rattle.room_wire.proofs.messages.splitting.rest_of_stream.Goals as goal

pub returns-in-Bad : goal.returns-in-Bad
returns-in-Bad c = let so = c.messages.invariant in (so.0, inr (so.1, never_none _ c.in-Bad.ensures.0))

pub returns-then-last : goal.returns-then-last
returns-then-last c =
    let so = c.messages.invariant in
    let m = c.in-Whole.ensures.0 in
    let last = shown_last _ m _ c.in-Whole.ensures.2 c.is_last.ensures in
    rw take_rest (so.0 ++ m ∷ [], inl (ends _ _ _ so.0 m so.1 c.in-Whole.ensures.1 (sym last ∙ c.if-last.true)))

pub messages-smaller : goal.messages-smaller
messages-smaller c = let shorter = reads_shorter _ _ c.in-Whole.ensures.0 c.in-Whole.ensures.1 in
    rw take_rest (omega (arith, shorter))

pub messages-preserved : goal.messages-preserved
messages-preserved c =
    let so = c.messages.invariant in
    let m = c.in-Whole.ensures.0 in
    let last = shown_last _ m _ c.in-Whole.ensures.2 c.is_last.ensures in
    rw take_rest (
      so.0 ++ m ∷ [],
      follows_then so.0 (m ∷ []) _ _ _ so.1 (follows_one _ _ m c.in-Whole.ensures.1 (sym last ∙ c.if-last.false)),
    )
