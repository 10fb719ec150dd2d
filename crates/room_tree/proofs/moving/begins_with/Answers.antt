use Rattle.room_tree.proofs.Common.{◌≡◌, ℕ, ◌<◌, ap, sym, ◌∙◌, arith, [], ◌++◌, take, drop, length, get_or}
use Rattle.room_tree.proofs.Common.{false_from_ne_true, get_or_append_left, get_or_default, take_all, take_more_same}
use Rattle.room_tree.proofs.Common.{take-append-drop, Path, is_at_or_below, at_behind, rest_below}
use Rattle.room_tree.proofs.Renamed.{other_names, same_names}
use Rattle.room_tree.proofs.moving.begins_with.Goals as goal

pub returns-then-ne : goal.returns-then-ne
returns-then-ne c =
    let names = c.args.names.now in
    let top = c.args.top.now in
    let i = c.loop-index.index in
    let n = c.index-names-index.result in
    sym (false_from_ne_true (is_at_or_below names top) (λ below.
    other_names c.text.result.now c.text-in-loop-index.result.now c.ne.result c.ne.ensures c.if-ne.true
    (c.text.ensures.value ∙ c.index-names-index.is ∙ ap (λ (p : Path). get_or p i n) (rest_below top names below)
    ∙ get_or_append_left top (drop (length top) names) n i c.loop-index-test.true
    ∙ get_or_default top i n c.index-top-index.result c.loop-index-test.true
    ∙ sym c.index-top-index.is ∙ sym c.text-in-loop-index.ensures.value)))

pub loop-index-preserved : goal.loop-index-preserved
loop-index-preserved c =
    let names = c.args.names.now in
    let top = c.args.top.now in
    let i = c.loop-index.index in
    let n = c.index-names-index.result in
    let m = c.index-top-index.result in
    let within : i < length names = omega (arith, c.loop-index-test.true, c.if-names-top.false) in
    let same = same_names c.text.result.now c.text-in-loop-index.result.now c.ne.result c.ne.ensures c.if-ne.false in
    take_more_same names top i [] within c.loop-index-test.true c.loop-index.invariant
    (get_or_default names i [] n within ∙ sym c.index-names-index.is ∙ sym c.text.ensures.value ∙ same
    ∙ c.text-in-loop-index.ensures.value ∙ c.index-top-index.is ∙ get_or_default top i m [] c.loop-index-test.true)

pub returns : goal.returns
returns c =
    let names = c.args.names.now in
    let top = c.args.top.now in
    let last : length top ≡ c.loop-index.index = omega (arith, c.loop-index-test.false, c.loop-index.auto.index-end) in
    let front : take (length top) names ≡ top =
    ap (λ (k : ℕ). take k names) last ∙ c.loop-index.invariant
    ∙ take_all c.loop-index.index top c.loop-index-test.false in
    let whole : names ≡ top ++ drop (length top) names =
    sym (take-append-drop (length top) names) ∙ ap (λ (p : Path). p ++ drop (length top) names) front in
    sym (ap (λ (p : Path). is_at_or_below p top) whole ∙ at_behind top (drop (length top) names))
