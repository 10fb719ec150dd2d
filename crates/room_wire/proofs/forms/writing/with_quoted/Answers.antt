use Rattle.room_wire.proofs.Common.{◌≡◌, [], ◌∷◌, ◌++◌, ap, ◌∙◌, append-nil, print, print_from, quoted}
use Rattle.json.specs.Token.{string}
use Rattle.room_wire.proofs.forms.writing.with_quoted.Goals as goal

pub returns : goal.returns
unfolding print_from
returns c =
    let tokens : c.string.new.self.tokens ≡ string c.args.text.now ∷ [] =
    c.in_ok-string.ensures.ok ∙ ap (λ ts. ts ++ string c.args.text.now ∷ []) c.new-out.ensures.tokens in
    let before : c.string.new.self.before ≡ c.args.bytes.items =
    c.in_ok-string.ensures.room.0 ∙ c.new-out.ensures.before in
    c.into_inner.ensures.items ∙ (λ i. before i ++ print (tokens i))
    ∙ ap (λ xs. c.args.bytes.items ++ xs) (append-nil (quoted c.args.text.now))
