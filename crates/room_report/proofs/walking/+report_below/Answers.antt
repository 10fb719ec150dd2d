use Rattle.room_report.proofs.Common.{ℕ, ◌+◌, ap, sym, ◌∙◌, arith, List, [], ◌∷◌, ◌++◌, drop, append-nil, flat_map}
use Rattle.room_report.proofs.Common.{length_push, Node, Records, name_of, item_lines, text_below}
use Rattle.std.proofs.KnownBytes.{Appends-trans}
use Rattle.room_records.proofs.Shelves.{read_then}
use Rattle.room_records.proofs.Writers.{front_of_more, front_then}
use Rattle.room_report.proofs.Sent.{front_is, appends_is, sent_front}
use Rattle.room_report.proofs.Written.{err_writes, so_far, cut, next, done, child_at, begins, text_of_item}
use Rattle.room_report.proofs.walking.+report_below.Goals as goal

pub returns-in_err-write_item-clause-value : goal.returns-in_err-write_item-clause-value
returns-in_err-write_item-clause-value g t c = λ intact laid_out r e room stand path is long.
    let report = c.args.report.now in
    let lines = item_lines report c.args.item.now in
    let text = begins r room stand path c.args.item.now is report in
    err_writes _ _ (text_below report room path) c.from_residual.result c.from_residual.ensures.0
    (front_is _ _ (lines ++ text.0) (text_below report room path) (sym text.1)
    (front_of_more _ _ lines text.0 c.in_err-write_item.ensures.written))

pub returns-then-is_leaf-clause-value : goal.returns-then-is_leaf-clause-value
returns-then-is_leaf-clause-value g t c = λ intact laid_out r e room stand path is long.
    let report = c.args.report.now in
    let lines = item_lines report c.args.item.now in
    let text = text_of_item r room stand path c.args.item.now is report
    [] (c.is_leaf.ensures.leaf c.if-is_leaf.true r room stand path is long) in
    appends_is _ _ lines (text_below report room path) (sym (append-nil lines) ∙ sym text)
    c.in_ok-write_item.ensures.written

pub returns-in_err-nodes-clause-value : goal.returns-in_err-nodes-clause-value
returns-in_err-nodes-clause-value g t c = λ intact laid_out r e room stand path is long.
    let report = c.args.report.now in
    let lines = item_lines report c.args.item.now in
    let text = begins r room stand path c.args.item.now is report in
    err_writes _ _ (text_below report room path)
    c.from_residual-in_err-nodes.result c.from_residual-in_err-nodes.ensures.0
    (front_is _ _ (lines ++ text.0) (text_below report room path) (sym text.1)
    (sent_front _ _ lines text.0 c.in_ok-write_item.ensures.written))

pub returns-in_err-below-clause-value : goal.returns-in_err-below-clause-value
returns-in_err-below-clause-value g t c = λ intact laid_out r e room stand path is long.
    let report = c.args.report.now in
    let lines = item_lines report c.args.item.now in
    let nodes = c.as_slice-node-items.result.now in
    let i = c.loop-node.node-index in
    let child : Node → List ℕ = λ node. text_below report room (path ++ name_of node ∷ []) in
    let before = c.item_below.ensures.frame.call.frame.was_intact intact in
    let so = c.loop-node.invariant.written before laid_out r e room stand path is long in
    err_writes _ _ (text_below report room path)
    c.from_residual-in_err-below.result c.from_residual-in_err-below.ensures.0
    (front_is _ _ (so_far child lines nodes i ++ flat_map child (drop i nodes)) (text_below report room path)
    (sym (cut child lines nodes i) ∙ sym (text_of_item r room stand path c.args.item.now is report nodes so.0))
    (sent_front _ _ (so_far child lines nodes i) (flat_map child (drop i nodes)) so.1))

pub returns-in_err-report_below-clause-value : goal.returns-in_err-report_below-clause-value
returns-in_err-report_below-clause-value g t c = λ intact laid_out r e room stand path is long.
    let report = c.args.report.now in
    let lines = item_lines report c.args.item.now in
    let nodes = c.as_slice-node-items.result.now in
    let node = c.node-item.result in
    let i = c.loop-node.node-index in
    let child : Node → List ℕ = λ n. text_below report room (path ++ name_of n ∷ []) in
    let second = c.report_below.ensures.frame.call.frame.was_intact intact in
    let there = c.in_ok-below.ensures.there second in
    let first = c.item_below.ensures.frame.call.frame.was_available there in
    let so = c.loop-node.invariant.written (c.item_below.ensures.frame.call.frame.was_intact second)
    laid_out r e room stand path is long in
    let declared = c.loop-node.invariant.frame.call.frame.laid_out first laid_out in
    let same = ap (λ (s : Records). s.objects) (c.loop-node.invariant.frame.same first laid_out) ∙ e in
    let declared' = c.item_below.ensures.frame.call.frame.laid_out there declared in
    let same' = ap (λ (s : Records). s.objects) (c.item_below.ensures.frame.same there declared) ∙ same in
    let item = c.in_ok-below.ensures.value second declared r same room stand path is
    (child_at r c.args.item.now.id nodes i node so.0 c.loop-node-test.true c.node-item.is) in
    let deep = c.is_leaf.ensures.deep c.if-is_leaf.false in
    let wrote = c.in_err-report_below.ensures.value intact declared' r same' room stand (path ++ name_of node ∷ []) item
    (omega (arith, long, deep, length_push path (name_of node))) in
    err_writes _ _ (text_below report room path) c.from_residual-in_err-report_below.result
    c.from_residual-in_err-report_below.ensures.0
    (front_is _ _ (so_far child lines nodes (i + 1) ++ flat_map child (drop (i + 1) nodes))
    (text_below report room path)
    (sym (cut child lines nodes (i + 1)) ∙ sym (text_of_item r room stand path c.args.item.now is report nodes so.0))
    (front_of_more _ _ (so_far child lines nodes (i + 1)) (flat_map child (drop (i + 1) nodes))
    (front_is _ _ (so_far child lines nodes i ++ child node) (so_far child lines nodes (i + 1))
    (sym (next child lines nodes i node c.loop-node-test.true c.node-item.is))
    (front_then _ _ _ (so_far child lines nodes i) (child node) so.1 wrote))))

pub loop-node-preserved : goal.loop-node-preserved
loop-node-preserved g t c = record {
  there = λ intact. c.in_ok-report_below.ensures.frame.call.alive intact
      (c.in_ok-below.ensures.there (c.report_below.ensures.frame.call.frame.was_intact intact));
  frame = read_then _ _ _ _ c.in_ok-report_below.ensures.frame
      (read_then _ _ _ _ c.in_ok-below.ensures.frame c.loop-node.invariant.frame);
  written = λ intact laid_out r e room stand path is long.
      let report = c.args.report.now in
      let lines = item_lines report c.args.item.now in
      let nodes = c.as_slice-node-items.result.now in
      let node = c.node-item.result in
      let i = c.loop-node.node-index in
      let child : Node → List ℕ = λ n. text_below report room (path ++ name_of n ∷ []) in
      let second = c.report_below.ensures.frame.call.frame.was_intact intact in
      let there = c.in_ok-below.ensures.there second in
      let first = c.item_below.ensures.frame.call.frame.was_available there in
      let so = c.loop-node.invariant.written (c.item_below.ensures.frame.call.frame.was_intact second)
      laid_out r e room stand path is long in
      let declared = c.loop-node.invariant.frame.call.frame.laid_out first laid_out in
      let same = ap (λ (s : Records). s.objects) (c.loop-node.invariant.frame.same first laid_out) ∙ e in
      let declared' = c.item_below.ensures.frame.call.frame.laid_out there declared in
      let same' = ap (λ (s : Records). s.objects) (c.item_below.ensures.frame.same there declared) ∙ same in
      let item = c.in_ok-below.ensures.value second declared r same room stand path is
      (child_at r c.args.item.now.id nodes i node so.0 c.loop-node-test.true c.node-item.is) in
      let deep = c.is_leaf.ensures.deep c.if-is_leaf.false in
      let wrote =
      c.in_ok-report_below.ensures.value intact declared' r same' room stand (path ++ name_of node ∷ []) item
      (omega (arith, long, deep, length_push path (name_of node))) in (
        so.0,
        appends_is _ _ (so_far child lines nodes i ++ child node) (so_far child lines nodes (i + 1))
            (sym (next child lines nodes i node c.loop-node-test.true c.node-item.is))
            (Appends-trans _ _ _ (so_far child lines nodes i) (child node) so.1 wrote),
      );
}

pub returns-clause-value : goal.returns-clause-value
returns-clause-value g t c = λ intact laid_out r e room stand path is long.
    let report = c.args.report.now in
    let lines = item_lines report c.args.item.now in
    let nodes = c.as_slice-node-items.result.now in
    let i = c.loop-node.node-index in
    let child : Node → List ℕ = λ n. text_below report room (path ++ name_of n ∷ []) in
    let so = c.loop-node.invariant.written intact laid_out r e room stand path is long in
    appends_is _ _ (so_far child lines nodes i) (text_below report room path)
    (done child lines nodes i c.loop-node-test.false
    ∙ sym (text_of_item r room stand path c.args.item.now is report nodes so.0)) so.1
