use Rattle.room_records.proofs.Common.{refl, bytes_eq, held, slot_cmp, kept_in}
use Rattle.room_records.proofs.SessionKeys.{one_more, none_taken}
use Rattle.room_records.proofs.mem.sessions.take_slots.Goals as goal

pub loop-slot-init : goal.loop-slot-init
loop-slot-init c = record {
  name = refl;
  slots = λ name slot. none_taken (bytes_eq name c.args.sid) slot (kept_in c.args.kept.now.slots name slot);
  rooms = λ key room. room;
}

pub loop-slot-preserved : goal.loop-slot-preserved
loop-slot-preserved c =
    let now = c.loop-slot.invariant in
    record {
      name = now.name;
      slots = one_more _ _ _ _ _ (rw now.name at c.take.ensures.held) (held slot_cmp c.args.kept.now.slots) refl
          now.slots;
      rooms = λ key room. c.take.ensures.kept key (now.rooms key room);
    }
