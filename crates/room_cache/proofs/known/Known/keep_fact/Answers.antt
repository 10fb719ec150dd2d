use Rattle.room_cache.proofs.Common.{sym, subst, rules, Name, IsKept}
use Rattle.room_cache.proofs.SlotsKept.{one_more_slot}
use Rattle.room_cache.proofs.known.Known.keep_fact.Goals as goal

pub returns-in-Ok : goal.returns-in-Ok
returns-in-Ok c = λ r is true_of. record {
  sessions = true_of.sessions;
  nodes = true_of.nodes;
  lists = true_of.lists;
  decisions = true_of.decisions;
  slots =
      let P : Name → Type 0 = λ name. IsKept c.args.fact (r.slot name c.args.slot) in
      one_more_slot r c.args.self.now.slots c.keep.new.self c.in-Ok.sid c.args.slot c.args.fact (search rules)
      (subst P (sym c.in-Ok.ensures) is) c.keep.ensures true_of.slots;
  next = true_of.next;
}
