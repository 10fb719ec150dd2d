use Rattle.room_tree.proofs.Common.{◌≡◌, ◌-◌, refl, ap, ◌∙◌, length, arith, Path, path_parts, TooDeep, refuse_if}
use Rattle.room_tree.proofs.Common.{node_of}
use Rattle.room_tree.proofs.Depths.{depth_check}
use Rattle.room_tree.proofs.Stops.{refused_as}
use Rattle.room_tree.proofs.depth.check_depth.Goals as goal

pub overflow_sub-too_deep : goal.overflow_sub-too_deep
overflow_sub-too_deep g c =
    let short = (path_parts _ c.names.ensures.lawful).short in
    let same = ap (λ (p : Path). length p) c.names.ensures.value in
    omega (arith, short, same)

pub returns-then-deep-clause-value : goal.returns-then-deep-clause-value
returns-then-deep-clause-value g c = λ available laid_out t e room stand path found.
    let levels : 17 - length c.names.result.now ≡ 17 - length c.args.to.now =
    ap (λ (p : Path). 17 - length p) c.names.ensures.value in
    let told = c.in_ok-deep.ensures.value available laid_out t e room stand path
    (node_of c.args.loaded.now) found.is_there.at found.is_there.node_stands refl in
    refused_as c.of.result _ c.of.ensures
    (depth_check room stand.lawful path c.args.to.now c.in_ok-deep.deep
    (path_parts _ c.names.ensures.lawful).short (rw (← levels) told)
    ∙ ap (λ b. refuse_if b TooDeep) c.if-deep.true)

pub returns-else-deep-clause-value : goal.returns-else-deep-clause-value
returns-else-deep-clause-value g c = λ available laid_out t e room stand path found.
    let levels : 17 - length c.names.result.now ≡ 17 - length c.args.to.now =
    ap (λ (p : Path). 17 - length p) c.names.ensures.value in
    let told = c.in_ok-deep.ensures.value available laid_out t e room stand path
    (node_of c.args.loaded.now) found.is_there.at found.is_there.node_stands refl in (
      depth_check room stand.lawful path c.args.to.now c.in_ok-deep.deep
          (path_parts _ c.names.ensures.lawful).short (rw (← levels) told)
          ∙ ap (λ b. refuse_if b TooDeep) c.if-deep.false,
      tt,
    )

pub returns-in_err-deep-clause-asks : goal.returns-in_err-deep-clause-asks
returns-in_err-deep-clause-asks g c = λ available laid_out t e room stand path found.
    c.reaches_down.ensures.asks available laid_out t e room stand path found.is_there.at

pub returns-then-deep-clause-asks : goal.returns-then-deep-clause-asks
returns-then-deep-clause-asks g c = λ available laid_out t e room stand path found.
    c.reaches_down.ensures.asks available laid_out t e room stand path found.is_there.at

pub returns-else-deep-clause-asks : goal.returns-else-deep-clause-asks
returns-else-deep-clause-asks g c = λ available laid_out t e room stand path found.
    c.reaches_down.ensures.asks available laid_out t e room stand path found.is_there.at
