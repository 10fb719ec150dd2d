use Rattle.room_wire.proofs.Common.{◌≡◌, true, ap, sym, ◌∙◌, is_ascii}
use Rattle.room_wire.proofs.Lemmas.Asks.TargetTexts.{walk_texts}
use Rattle.room_wire.proofs.asks.routing.target_of.Goals as goal

pub parts_of-requires : goal.parts_of-requires
parts_of-requires c =
    let plain : is_ascii c.args.params.now.path.now ≡ true =
    ap is_ascii (c.requires ∙ sym c.as_bytes.ensures.value) ∙ sym c.is_ascii.ensures ∙ c.if-is_ascii.true in
    walk_texts c.args.params.now.pattern.now c.args.params.now.text.now
    c.args.params.now.path.now c.args.params.now.names.now plain
