use Rattle.room_records.proofs.mem.sessions.Sessions.reserve_slot.Goals as goal

pub invariant_of-self : goal.invariant_of-self
invariant_of-self c = record {
  few = λ sid slot some. c.args.self.now.few sid slot (rw (c.reserve.ensures.same (sid, slot)) at some);
  counted = c.args.self.now.counted;
}

pub returns-clause-slots : goal.returns-clause-slots
returns-clause-slots c = λ name number. c.reserve.ensures.same (name, number)

pub returns-clause-kept : goal.returns-clause-kept
returns-clause-kept c = λ name number room. c.reserve.ensures.kept (name, number) room
