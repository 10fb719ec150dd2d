use Rattle.room_tree.proofs.Common.{◌≡◌, ◌-◌, ap, ◌∙◌, arith, [], ◌∷◌, ◌++◌, length, Some, length_push, get_or_push}
use Rattle.room_tree.proofs.making.last_name.Goals as goal

pub returns : goal.returns
returns c = λ folder name is.
    let whole : c.names-names.result.now ≡ folder ++ name ∷ [] = c.names-names.ensures.value ∙ is in
    let at : length folder ≡ length c.names-names.result.now - 1 =
    omega (arith, ap length whole, length_push folder name) in
    ap Some (c.in_ok-name.ensures ∙ rw (← whole) c.index-names-count.is
    ∙ get_or_push folder name c.index-names-count.result (length c.names-names.result.now - 1) at)
