use Rattle.room_sql.proofs.Common.{◌≡◌, ◌∙◌, true, sym, subst, rules, IsStored}
use Rattle.room_sql.proofs.ReadLists.{more_stored}
use Rattle.room_sql.proofs.read_lists.ReadLists.keep.Goals as goal

pub returns : goal.returns
returns c = λ trees stored mine.
    let placed : c.args.list.now.is_placed ≡ true = search rules in
    more_stored c.insert.result c.args.self.now.lists c.insert.new.self c.args.id c.in-Ok.copy trees
    c.insert.ensures.updates c.insert.ensures.err stored
    (subst (λ l. IsStored c.args.id l trees) (sym (c.in-Ok.ensures ∙ c.as_slice.ensures.value)) (mine placed))
