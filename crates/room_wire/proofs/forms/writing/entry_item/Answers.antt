use Rattle.room_wire.proofs.Common.{rules, ◌≡◌, ◌∙◌, append_assoc, IfOk-weaker}
use Rattle.room_wire.proofs.forms.writing.entry_item.Goals as goal

pub returns : goal.returns
returns c =
    let flags : c.from.result ≡ c.args.flags = search rules in
    let mask : c.from-2.result ≡ c.args.mask = search rules in
    record {
      written = IfOk-weaker c.end_object.result _ _
          (λ _ more. more ∙ rw (
            c.in_ok-text_member.ensures.written,
            c.in_ok-number_member-3.ensures.written,
            c.in_ok-number_member-2.ensures.written,
            c.in_ok-number_member.ensures.written,
            c.in_ok-begin_object.ensures.ok,
            flags,
            mask,
          ) (simp append_assoc))
          c.end_object.ensures.ok;
      before = c.end_object.ensures.room.0 ∙ c.in_ok-text_member.ensures.before
          ∙ c.in_ok-number_member-3.ensures.before ∙ c.in_ok-number_member-2.ensures.before
          ∙ c.in_ok-number_member.ensures.before ∙ c.in_ok-begin_object.ensures.room.0;
    }
