use Rattle.room_records.proofs.Common.{inl, inr, refl, ap, sym, ◌∙◌, arith, bytes_eq, and_right, cases_lt, cond-false}
use Rattle.room_records.proofs.Common.{ne_eqb, max_slots, session_in, kept_in, mem_records}
use Rattle.room_records.proofs.MemRecords.{low_slot}
use Rattle.room_records.proofs.mem.MemShelf.put_slot.Goals as goal

pub returns-clause-records : goal.returns-clause-records
returns-clause-records c = λ rules.
    let old = mem_records c.args.self.now in
    let low = low_slot old c.args.row c.has_few_slots.ensures rules in
    λ i. record {
      objects = old.objects;
      session = λ sid. session_in (c.put_slot.ensures.sessions i) sid;
      slot = λ sid slot. c.put_slot.ensures.slots low sid slot i;
    }

pub returns-clause-untouched : goal.returns-clause-untouched
returns-clause-untouched c = record {
  node = λ id leave. refl;
  entries = λ id leave. refl;
  document = λ id leave. refl;
  next = λ leave. refl;
  session = λ sid leave. ap (λ rows. session_in rows sid) c.put_slot.ensures.sessions;
  slot = λ sid slot leave. elim (cases_lt c.args.row.slot max_slots) [
    | inl low ↦ c.put_slot.ensures.slots low sid slot ∙ leave.0 (mem_records c.args.self.now)
    | inr high ↦ ap (λ kept. kept_in kept sid slot) (c.put_slot.ensures.high high)
  ];
  kept = λ sid slot small. elim (cases_lt c.args.row.slot max_slots) [
    | inl low ↦ c.put_slot.ensures.slots low sid slot
    | inr high ↦
        let apart = ne_eqb slot c.args.row.slot (λ same. omega (arith, same, small, high)) in
        ap (λ kept. kept_in kept sid slot) (c.put_slot.ensures.high high)
        ∙ sym (cond-false _ _ _ (and_right (bytes_eq sid c.args.row.sid) _ apart))
  ];
}
