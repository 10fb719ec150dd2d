use Rattle.room_wire.proofs.Common.{codes, decimal, phrase, end_text}
use Rattle.http.specs.StatusCode.{code_digits}
use Rattle.room_wire.proofs.Lemmas.Answers.Heads.{seven_parts}
use Rattle.room_wire.proofs.answers.sending.head_of.Goals as goal

pub returns : goal.returns
returns c =
    seven_parts (codes "HTTP/1.1 ") (code_digits c.args.status) (codes " ") (phrase c.args.status)
    (codes "\r\ncontent-type: application/json\r\ncontent-length: ") (decimal c.args.size) (end_text c.args.last)
    c.as_str.ensures c.phrase_of.ensures c.format.ensures.text c.end_text.ensures
    c.new-head.ensures c.push_str.ensures.bytes c.push_str-2.ensures.bytes
    c.push_str-3.ensures.bytes c.push_str-4.ensures.bytes
    c.push_str-5.ensures.bytes c.push_str-6.ensures.bytes c.push_str-7.ensures.bytes
