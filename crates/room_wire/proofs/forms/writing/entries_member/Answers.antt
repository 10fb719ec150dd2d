use Rattle.room_wire.proofs.Common.{List, [], ◌∷◌, ◌++◌, codes, ap, ◌∙◌, arith, IfOk-weaker, Token, key, begin_array}
use Rattle.room_wire.proofs.Lemmas.Forms.Written.{entry_tokens, entries_tokens, items_ended}
use Rattle.room_wire.proofs.forms.writing.entries_member.Goals as goal

pub returns-clause-written : goal.returns-clause-written
returns-clause-written c =
    let front : List Token = key (codes "entries") ∷ begin_array ∷ [] in
    record {
      written = IfOk-weaker c.end_array.result _ _
          (λ _ more. items_ended entry_tokens c.args.entries.now c.loop-entry.entry-index c.args.out.now.tokens
          front c.loop-entry.out.tokens
          c.end_array.new.self.tokens (omega (arith, c.loop-entry-test.false)) c.loop-entry.invariant.tokens more
          ∙ ap (λ ts. c.args.out.now.tokens ++ (front ++ ts)) (entries_tokens c.args.entries.now))
          c.end_array.ensures.ok;
      before = c.end_array.ensures.room.0 ∙ c.loop-entry.invariant.before;
    }
