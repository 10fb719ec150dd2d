use Rattle.room_records.proofs.SessionKeys.{none_left, few_left}
use Rattle.room_records.proofs.mem.sessions.Sessions.drop_slots.Goals as goal

pub invariant_of-self : goal.invariant_of-self
invariant_of-self c = record {
  counted = c.args.self.now.counted;
  few = few_left _ _ _ c.args.self.now.few c.take_slots.ensures.slots;
}

pub returns-clause-slots : goal.returns-clause-slots
returns-clause-slots c = none_left _ _ _ c.args.self.now.few c.take_slots.ensures.slots
