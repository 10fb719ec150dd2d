use Rattle.room_records.proofs.Common.{arith}
use Rattle.room_records.proofs.SessionKeys.{put_slot_row, still_few}
use Rattle.room_records.proofs.mem.sessions.Sessions.put_slot.Goals as goal

pub invariant_of-self : goal.invariant_of-self
invariant_of-self c = record {
  counted = c.args.self.now.counted;
  few = still_few _ _ _ _ _ c.put.ensures.held c.args.self.now.few (omega arith);
}

pub returns-clause-slots : goal.returns-clause-slots
returns-clause-slots c = λ low. put_slot_row _ _ _ _ _ c.put.ensures.held

pub returns-clause-kept : goal.returns-clause-kept
returns-clause-kept c = λ sid slot room. c.put.ensures.kept (sid, slot) room
