use Rattle.room_wire.proofs.Common.{◌++◌, ◌∷◌, [], true, false, refl, sym, ◌∙◌, arith, Appends-nil, Appends-trans}
use Rattle.room_wire.proofs.Lemmas.Serving.Rounds.{shown_last, shown_answer, reads_at, begun, ends, breaks}
use Rattle.room_wire.proofs.Lemmas.Serving.Rounds.{outputs_then, one_more}
use Rattle.room_wire.proofs.Lemmas.Messages.Fronts.{reads_shorter}
use Rattle.room_wire.proofs.Lemmas.Messages.Streams.{follows_then, follows_one}
use Rattle.room_wire.proofs.serving.stream.answer_all.Goals as goal

pub rounds-init : goal.rounds-init
rounds-init g c = ([], [], refl, ([], refl, refl), Appends-nil _, omega (arith, c.ranges.start.fits))

pub returns-then-not-sent : goal.returns-then-not-sent
returns-then-not-sent g c =
    let so = c.rounds.invariant in
    let m = c.in-Whole.ensures.0 in
    let may = g.S.Service.may_answer c.args.context.now in
    let shows = c.in-Whole.ensures.2 in
    let reads = reads_at _ c.rounds.input c.take.new.self m _ c.bytes.ensures c.take.ensures c.in-Whole.ensures.1 in
    let last = shown_last _ m _ shows c.is_last-last.ensures in
    let x = shown_answer may c.rounds.service c.answer_one-sent.new.service _ m _
    _ false _ _ shows last c.if-not-sent.true c.answer_one-sent.ensures in (
      so.0 ++ m ∷ [],
      so.1 ++ x.text,
      (begun _ _ _ so.0 m _ (sym last) so.2 reads, breaks _ _ _ so.1 x.text so.4 x.sent),
      outputs_then may c.args.service.now c.rounds.service
          c.answer_one-sent.new.service so.0 (m ∷ []) so.1 x.text so.3 x.output,
      omega (arith, one_more so.0 m, so.5, c.saturating_add-count.ensures),
    )

pub returns-then-last : goal.returns-then-last
returns-then-last g c =
    let so = c.rounds.invariant in
    let m = c.in-Whole.ensures.0 in
    let may = g.S.Service.may_answer c.args.context.now in
    let shows = c.in-Whole.ensures.2 in
    let reads = reads_at _ c.rounds.input c.take.new.self m _ c.bytes.ensures c.take.ensures c.in-Whole.ensures.1 in
    let last = shown_last _ m _ shows c.is_last-last.ensures in
    let x = shown_answer may c.rounds.service c.answer_one-sent.new.service _ m _
    _ true _ _ shows last c.if-not-sent.false c.answer_one-sent.ensures in (
      so.0 ++ m ∷ [],
      so.1 ++ x.text,
      (ends _ _ _ so.0 m so.2 reads (sym last ∙ c.if-last.true), Appends-trans _ _ _ so.1 x.text so.4 x.sent),
      outputs_then may c.args.service.now c.rounds.service
          c.answer_one-sent.new.service so.0 (m ∷ []) so.1 x.text so.3 x.output,
      omega (arith, one_more so.0 m, so.5, c.saturating_add-count.ensures),
    )

pub rounds-smaller : goal.rounds-smaller
rounds-smaller g c =
    let m = c.in-Whole.ensures.0 in
    let reads = reads_at _ c.rounds.input c.take.new.self m _ c.bytes.ensures c.take.ensures c.in-Whole.ensures.1 in
    omega (arith, reads_shorter _ _ m reads)

pub rounds-preserved : goal.rounds-preserved
rounds-preserved g c =
    let so = c.rounds.invariant in
    let m = c.in-Whole.ensures.0 in
    let may = g.S.Service.may_answer c.args.context.now in
    let shows = c.in-Whole.ensures.2 in
    let reads = reads_at _ c.rounds.input c.take.new.self m _ c.bytes.ensures c.take.ensures c.in-Whole.ensures.1 in
    let last = shown_last _ m _ shows c.is_last-last.ensures in
    let x = shown_answer may c.rounds.service c.answer_one-sent.new.service _ m _
    _ true _ _ shows last c.if-not-sent.false c.answer_one-sent.ensures in (
      so.0 ++ m ∷ [],
      so.1 ++ x.text,
      follows_then so.0 (m ∷ []) _ _ _ so.2 (follows_one _ _ m reads (sym last ∙ c.if-last.false)),
      outputs_then may c.args.service.now c.rounds.service
          c.answer_one-sent.new.service so.0 (m ∷ []) so.1 x.text so.3 x.output,
      Appends-trans _ _ _ so.1 x.text so.4 x.sent,
      omega (arith, one_more so.0 m, so.5, c.saturating_add-count.ensures),
    )
