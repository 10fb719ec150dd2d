use Rattle.room_wire.proofs.Common.{List, [], ◌∷◌, ◌++◌, codes, ap, ◌∙◌, arith, IfOk-weaker, Token, key, begin_array}
use Rattle.room_wire.proofs.Lemmas.Forms.Written.{name_tokens, names_tokens, items_ended}
use Rattle.room_wire.proofs.forms.replies.names_member.Goals as goal

pub returns : goal.returns
returns c =
    let front : List Token = key (codes "names") ∷ begin_array ∷ [] in
    record {
      written = IfOk-weaker c.end_array.result _ _
          (λ _ more. items_ended name_tokens c.args.names.now c.loop-name.name-index c.args.out.now.tokens
          front c.loop-name.out.tokens
          c.end_array.new.self.tokens (omega (arith, c.loop-name-test.false)) c.loop-name.invariant.tokens more
          ∙ ap (λ ts. c.args.out.now.tokens ++ (front ++ ts)) (names_tokens c.args.names.now))
          c.end_array.ensures.ok;
      before = c.end_array.ensures.room.0 ∙ c.loop-name.invariant.before;
    }
