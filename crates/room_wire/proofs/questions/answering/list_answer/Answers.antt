use Rattle.room_wire.proofs.Common.{◌∙◌, ap, bit_and, IfOk-weaker, compact_text, allowed_data, bit_of}
use Rattle.room_wire.proofs.questions.answering.list_answer.Goals as goal

pub returns : goal.returns
returns c =
    let allowed = c.bits-2.ensures.value ∙ c.allowed_bits.ensures.value in
    let bit = c.bit_of-bit.ensures ∙ ap bit_of c.decide.ensures.value in
    IfOk-weaker c.allowed_text.result _ _
    (λ text written. written
    ∙ (λ i. compact_text (allowed_data (bit_and (c.bits.ensures.value i) (allowed i)) (bit i))))
    c.allowed_text.ensures
