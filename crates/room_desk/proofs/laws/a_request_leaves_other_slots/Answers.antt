use Rattle.room_desk.proofs.Numbers.{other_slots_stay}
use Rattle.room_desk.proofs.Common.{Slot}
use Rattle.room_desk.proofs.Idle.{accepted_after_idle}
use Rattle.room_desk.proofs.laws.a_request_leaves_other_slots.Goals as goal

pub returns-clause-other : goal.returns-clause-other
returns-clause-other c = other_slots_stay

pub returns-clause-refused : goal.returns-clause-refused
returns-clause-refused c = λ past q sid slot refused. accepted_after_idle past (Slot q) refused sid slot
