use Rattle.room_wire.proofs.Common.{◌<◌, ◌≢◌, ◌++◌, [], refl, sym, ap, subst, ◌∙◌, arith, length, length-append, inl}
use Rattle.room_wire.proofs.Common.{inr, Appends-nil, Appends-trans, Consumes-nil, Consumes-trans, Consumes-kept}
use Rattle.room_wire.proofs.Common.{NoMessage, Follows}
use Rattle.room_wire.proofs.Lemmas.Messages.Fronts.{none_empty}
use Rattle.room_wire.proofs.Lemmas.Serving.Joins.{more_follows, more_ended, more_begun, more_count}
use Rattle.room_wire.proofs.Lemmas.Serving.Joins.{refused_ends, never_none}
use Rattle.room_wire.proofs.Lemmas.Serving.Rounds.{breaks, outputs_then}
use Rattle.room_wire.proofs.Lemmas.Messages.Boundaries.{some_when, empty_when}
use Rattle.room_wire.proofs.Lemmas.Messages.Streams.{follows_more}
use Rattle.room_wire.proofs.serving.stream.serve_with.Goals as goal

pub reads-init : goal.reads-init
reads-init g c = record {
  bytes = [];
  ms = [];
  out = [];
  follows = sym c.requires;
  outputs = ([], refl, refl);
  no_message = none_empty _ (ap length c.requires);
  short = let e = ap length c.requires in omega arith;
  consumes = Consumes-nil _;
  appends = Appends-nil _;
  counted = omega arith;
  done = omega arith;
}

pub returns-in-Err-clause-served : goal.returns-in-Err-clause-served
returns-in-Err-clause-served g c =
    let so = c.reads.invariant in (
      so.bytes,
      c.reads.input,
      so.ms,
      so.out,
      Consumes-kept _ _ _ so.bytes so.consumes c.in-Err.ensures.err.1,
      so.outputs,
      so.counted,
      (so.appends, so.follows, so.no_message),
    )

pub returns-in-Ok-eq0-clause-served : goal.returns-in-Ok-eq0-clause-served
returns-in-Ok-eq0-clause-served g c =
    let so = c.reads.invariant in
    let came = c.in-Ok-eq0.ensures.ok in
    let end = c.in-Ok-eq0.ensures.end c.in-Ok-eq0.field-0-test in
    let follows = follows_more so.ms so.bytes c.reads.input came.0 so.follows in
    let none = subst NoMessage (sym end.0) so.no_message in (
      so.bytes ++ came.0,
      c.read_from.new.self,
      so.ms,
      so.out,
      Consumes-trans _ _ _ so.bytes came.0 so.consumes came.1,
      so.outputs,
      c.refuse.ensures.0 ∙ so.counted,
      refused_ends _ _ so.ms so.out _ _ _ _ _ so.appends
          (subst (Follows (so.bytes ++ came.0) so.ms) (sym came.2) follows)
          none (subst (λ t. 0 < length t) c.bytes.ensures (some_when _ c.if-is_empty.ensures))
          (inl end.1) c.refuse.ensures.1,
    )

pub returns-then-is_empty-clause-served : goal.returns-then-is_empty-clause-served
returns-then-is_empty-clause-served g c =
    let so = c.reads.invariant in
    let came = c.in-Ok-eq0.ensures.ok in
    let follows = follows_more so.ms so.bytes c.reads.input came.0 so.follows in
    let end = c.in-Ok-eq0.ensures.end c.in-Ok-eq0.field-0-test in (
      so.bytes ++ came.0,
      c.read_from.new.self,
      so.ms,
      so.out,
      Consumes-trans _ _ _ so.bytes came.0 so.consumes came.1,
      so.outputs,
      so.counted,
      (
        so.appends,
        inr (
          subst (Follows (so.bytes ++ came.0) so.ms) (sym came.2) follows,
          sym c.bytes.ensures ∙ empty_when _ c.if-is_empty.ensures,
          end.1,
        ),
      ),
    )

pub returns-in-Broken-clause-served : goal.returns-in-Broken-clause-served
returns-in-Broken-clause-served g c =
    let so = c.reads.invariant in
    let came = c.in-Ok.ensures.ok in
    let may = g.S.Service.may_answer c.args.context.now in
    let ks = c.answer_all-stop.ensures.0 in
    let out = c.answer_all-stop.ensures.1 in
    let did = rw c.in-Broken.is at c.answer_all-stop.ensures.2 in (
      so.bytes ++ came.0,
      c.answer_all-stop.new.input,
      so.ms ++ ks,
      so.out ++ out,
      Consumes-trans _ _ _ so.bytes came.0 so.consumes came.1,
      outputs_then may c.args.service.now c.reads.service c.answer_all-stop.new.service
          so.ms ks so.out out so.outputs c.answer_all-stop.ensures.3,
      c.refuse-in-Broken.ensures.0 ∙ (omega (arith, more_count so.ms ks, so.counted, c.answer_all-stop.ensures.4)),
      refused_ends _ _ (so.ms ++ ks) (so.out ++ out) _ _ _ _ _ (Appends-trans _ _ _ so.out out so.appends did.1)
          (more_follows so.ms ks so.bytes c.reads.input came.0 _ _ so.follows came.2 did.0)
          (never_none _ did.2) did.3 (inr did.2) c.refuse-in-Broken.ensures.1,
    )

pub returns-in-Last-clause-served : goal.returns-in-Last-clause-served
returns-in-Last-clause-served g c =
    let so = c.reads.invariant in
    let came = c.in-Ok.ensures.ok in
    let may = g.S.Service.may_answer c.args.context.now in
    let ks = c.answer_all-stop.ensures.0 in
    let out = c.answer_all-stop.ensures.1 in
    let did = rw c.in-Last.is at c.answer_all-stop.ensures.2 in (
      so.bytes ++ came.0,
      c.answer_all-stop.new.input,
      so.ms ++ ks,
      so.out ++ out,
      Consumes-trans _ _ _ so.bytes came.0 so.consumes came.1,
      outputs_then may c.args.service.now c.reads.service c.answer_all-stop.new.service
          so.ms ks so.out out so.outputs c.answer_all-stop.ensures.3,
      omega (arith, more_count so.ms ks, so.counted, c.answer_all-stop.ensures.4),
      (
        Appends-trans _ _ _ so.out out so.appends did.1,
        inl (more_ended so.ms ks so.bytes c.reads.input came.0 _ _ so.follows came.2 did.0),
      ),
    )

pub returns-in-NotWritten-clause-served : goal.returns-in-NotWritten-clause-served
returns-in-NotWritten-clause-served g c =
    let so = c.reads.invariant in
    let came = c.in-Ok.ensures.ok in
    let may = g.S.Service.may_answer c.args.context.now in
    let ks = c.answer_all-stop.ensures.0 in
    let out = c.answer_all-stop.ensures.1 in
    let did = rw c.in-NotWritten.is at c.answer_all-stop.ensures.2 in (
      so.bytes ++ came.0,
      c.answer_all-stop.new.input,
      so.ms ++ ks,
      so.out ++ out,
      Consumes-trans _ _ _ so.bytes came.0 so.consumes came.1,
      outputs_then may c.args.service.now c.reads.service c.answer_all-stop.new.service
          so.ms ks so.out out so.outputs c.answer_all-stop.ensures.3,
      omega (arith, more_count so.ms ks, so.counted, c.answer_all-stop.ensures.4),
      inl (
        more_begun so.ms ks so.bytes c.reads.input came.0 _ _ so.follows came.2 did.0,
        breaks _ _ _ so.out out so.appends did.1,
      ),
    )

pub reads-preserved : goal.reads-preserved
reads-preserved g c =
    let so = c.reads.invariant in
    let came = c.in-Ok.ensures.ok in
    let may = g.S.Service.may_answer c.args.context.now in
    let ks = c.answer_all-stop.ensures.0 in
    let out = c.answer_all-stop.ensures.1 in
    let did = rw c.in-NeedsMore.is at c.answer_all-stop.ensures.2 in
    let some : c.in-Ok.field-0 ≢ 0 = c.in-Ok.field-0-test.1 in
    record {
      bytes = so.bytes ++ came.0;
      ms = so.ms ++ ks;
      out = so.out ++ out;
      follows = more_follows so.ms ks so.bytes c.reads.input came.0 _ _ so.follows came.2 did.0;
      outputs = outputs_then may c.args.service.now c.reads.service c.answer_all-stop.new.service
          so.ms ks so.out out so.outputs c.answer_all-stop.ensures.3;
      no_message = did.2;
      short = did.3;
      consumes = Consumes-trans _ _ _ so.bytes came.0 so.consumes came.1;
      appends = Appends-trans _ _ _ so.out out so.appends did.1;
      counted = omega (arith, more_count so.ms ks, so.counted, c.answer_all-stop.ensures.4);
      done = omega (arith, length-append so.bytes came.0, came.3, so.done, some);
    }

pub returns-clause-endless : goal.returns-clause-endless
returns-clause-endless g c =
    let so = c.reads.invariant in (
      (
        so.bytes,
        c.reads.input,
        so.ms,
        so.out,
        so.consumes,
        so.outputs,
        so.counted,
        (so.appends, so.follows, so.no_message),
      ),
      (so.bytes, so.consumes, omega (arith, so.done)),
    )
