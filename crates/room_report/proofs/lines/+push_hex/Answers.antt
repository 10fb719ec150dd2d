use Rattle.room_report.proofs.Common.{◌≡◌, false, ◌+◌, ◌-◌, ◌/◌, ◌%◌, ap, sym, ◌∙◌, arith, [], ◌∷◌, ◌++◌, append_assoc}
use Rattle.room_report.proofs.Common.{append-nil, hex}
use Rattle.std.specs.Fmt.{digit_glyph}
use Rattle.room_report.proofs.Hex.{hex_none, hex_more}
use Rattle.room_report.proofs.lines.+push_hex.Goals as goal

pub returns-then-places-eq0 : goal.returns-then-places-eq0
returns-then-places-eq0 t c =
    let old = c.args.buffer.now.items in
    sym (ap (λ digits. old ++ digits) (hex_none c.args.places c.args.number c.if-places-eq0.true) ∙ append-nil old)

pub returns : goal.returns
returns t c =
    let old = c.args.buffer.now.items in
    let fewer = c.args.places - 1 in
    let digit = digit_glyph false (c.args.number % 16) in
    let is : c.args.places ≡ fewer + 1 = omega (arith, c.if-places-eq0.false) in
    c.in_ok-push.ensures.items
    ∙ ap (λ d. c.push_hex.new.buffer.items ++ d ∷ []) c.hex_digit.ensures
    ∙ ap (λ front. front ++ digit ∷ []) c.in_ok-push_hex.ensures
    ∙ append_assoc old (hex fewer (c.args.number / 16)) (digit ∷ [])
    ∙ sym (ap (λ digits. old ++ digits) (hex_more c.args.places fewer c.args.number is))
