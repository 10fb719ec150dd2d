use Rattle.room_wire.proofs.Common.{◌≡◌, true, false, sym, ◌∙◌}
use Rattle.room_wire.proofs.Lemmas.Forms.Bodies.{json_some, json_none}
use Rattle.room_wire.proofs.forms.reading.json_in.Goals as goal

pub returns-in-Ok : goal.returns-in-Ok
returns-in-Ok c = json_some _ _ c.in-Ok.ensures.ok.0 c.in-Ok.ensures.ok.1

pub returns-else-is_memory : goal.returns-else-is_memory
returns-else-is_memory c =
    json_none _
    (c.in-Err.ensures.err (λ m. let no : false ≡ true = sym c.if-is_memory.false ∙ c.is_memory.ensures.1 m in cc))
