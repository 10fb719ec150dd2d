use Rattle.room_wire.proofs.Common.{◌≡◌, [], ◌∷◌, codes, refl, rules, string, num, obj, ok}
use Rattle.room_wire.proofs.Lemmas.Forms.Written.{text_of, ◌then◌}
use Rattle.room_wire.proofs.forms.replies.stat_text.Goals as goal

pub returns : goal.returns
returns c =
    let flags : c.from.result ≡ c.args.aclflag = search rules in
    let size : c.from-2.result ≡ c.args.size = search rules in
    rw (← c.kind_text.ensures) (text_of (obj ((codes "aclflag", num c.args.aclflag) ∷ ok
    ∷ (codes "group", string c.args.group.now) ∷ (codes "kind", string c.kind_text.result.now)
    ∷ (codes "owner", string c.args.owner.now) ∷ (codes "size", num c.args.size) ∷ [])) c.ended.result _
    (c.in_ok-out.ensures then c.in_ok-number_member.ensures then c.in_ok-number_member-2.ensures
    then c.in_ok-text_member.ensures then c.in_ok-text_member-2.ensures then c.in_ok-text_member-3.ensures
    then c.in_ok-number_member-3.ensures)
    (rw (flags, c.text.ensures.value, c.text-2.ensures.value, size) refl) c.ended.ensures)
