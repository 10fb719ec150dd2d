use Rattle.room_wire.proofs.Common.{◌≡◌, ◌∙◌, Some, refl, rules, refusal_data}
use Rattle.room_wire.proofs.Lemmas.Forms.Written.{text_of, ◌then◌}
use Rattle.room_wire.proofs.forms.replies.refused_at_text.Goals as goal

pub returns : goal.returns
returns c =
    let is : c.from.result ≡ c.args.bit = search rules in
    text_of (refusal_data c.args.code (Some (c.args.path.now, c.args.bit))) c.ended.result _
    (c.in_ok-out.ensures then c.in_ok-number_member.ensures then c.in_ok-number_member-2.ensures
    then c.in_ok-text_member.ensures then c.in_ok-text_member-2.ensures)
    (rw (
      is,
      c.refusal_number.ensures,
      c.refusal_name.ensures,
      c.as_str.ensures.value ∙ c.in_ok-place.ensures.value,
    ) refl) c.ended.ensures
