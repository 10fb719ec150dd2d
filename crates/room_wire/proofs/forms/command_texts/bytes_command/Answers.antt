use Rattle.room_wire.proofs.Common.{◌≡◌, ◌++◌, codes, ap, ◌∙◌, quoted, standard, encode_of, path_text}
use Rattle.room_wire.proofs.Lemmas.Forms.Letters.{bytes_text}
use Rattle.room_wire.proofs.forms.command_texts.bytes_command.Goals as goal

pub returns-clause-value : goal.returns-clause-value
returns-clause-value c =
    let place : c.as_str.result.now ≡ path_text c.args.path.now =
    c.as_str.ensures.value ∙ c.in_ok-place.ensures.value in
    let opened = c.in_ok-extend_from_slice.ensures.items ∙ ap (λ t. t ++ codes "{\"cmd\":") c.in_ok-start.ensures in
    let named = c.in_ok-text.ensures ∙ ap (λ t. t ++ quoted c.args.name.now) opened in
    let start = c.in_ok-extend_from_slice-2.ensures.items ∙ ap (λ t. t ++ codes ",\"data\":\"") named in
    let lettered = c.in_ok-append_letters.ensures ∙ ap (λ t. t ++ encode_of standard c.args.bytes.now) start in
    let after = c.in_ok-extend_from_slice-3.ensures.items ∙ ap (λ t. t ++ codes "\",\"path\":") lettered in
    let placed = c.in_ok-whole.ensures ∙ (λ i. after i ++ quoted (place i)) in
    c.in_ok-extend_from_slice-4.ensures.items ∙ ap (λ t. t ++ codes "}") placed
    ∙ bytes_text c.args.name.now c.args.bytes.now (path_text c.args.path.now) c.type_inv.bytes
