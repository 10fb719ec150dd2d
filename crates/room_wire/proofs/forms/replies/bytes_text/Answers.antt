use Rattle.room_wire.proofs.Common.{◌++◌, codes, ap, ◌∙◌, standard, encode_of}
use Rattle.room_wire.proofs.Lemmas.Forms.Letters.{read_text}
use Rattle.room_wire.proofs.forms.replies.bytes_text.Goals as goal

pub returns : goal.returns
returns c =
    let start = c.in_ok-extend_from_slice.ensures.items
    ∙ ap (λ t. t ++ codes "{\"code\":0,\"data\":\"") c.in_ok-text.ensures in
    let lettered = c.in_ok-append_letters.ensures ∙ ap (λ t. t ++ encode_of standard c.args.bytes.now) start in
    c.in_ok-extend_from_slice-2.ensures.items ∙ ap (λ t. t ++ codes "\"}") lettered
    ∙ read_text c.args.bytes.now c.type_inv.bytes
