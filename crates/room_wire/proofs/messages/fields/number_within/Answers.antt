use Rattle.room_wire.proofs.Common.{◌<◌, ◌+◌, arith, digits_value, nat_tests, max_body}
use Rattle.std.proofs.lemmas.Int.Digits.{digits_value_more}
use Rattle.std.proofs.lemmas.Str.Parse.{digits_value-take-le}
use Rattle.room_wire.proofs.Lemmas.Messages.Values.{digit_at}
use Rattle.room_wire.proofs.messages.fields.number_within.Goals as goal

pub returns-then-number-gt-MAX_BODY : goal.returns-then-number-gt-MAX_BODY
returns-then-number-gt-MAX_BODY c =
    let ds = c.args.digits.now in
    let i = c.loop-b.b-index in
    let digit = digit_at ds i c.loop-b-test.true c.requires in
    let step = digits_value_more 10 ds i c.loop-b-test.true in
    let front = digits_value-take-le 10 ds (i + 1) (omega arith) in
    let large : max_body < digits_value 10 ds = omega arith in
    grind (arith, nat_tests)

pub loop-b-preserved : goal.loop-b-preserved
loop-b-preserved c =
    let ds = c.args.digits.now in
    let i = c.loop-b.b-index in
    let digit = digit_at ds i c.loop-b-test.true c.requires in
    let step = digits_value_more 10 ds i c.loop-b-test.true in
    (omega arith, omega arith)
