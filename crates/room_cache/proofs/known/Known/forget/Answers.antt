use Rattle.room_cache.proofs.Common.{refl, ap, sym, subst, inl, inr, Some, cond, [], ◌∷◌, rules, Change, PutSlot}
use Rattle.room_cache.proofs.Common.{DropSlots, apply_change, IsLeft}
use Rattle.room_records.proofs.SessionKeys.{name_test}
use Rattle.room_cache.proofs.Keys.{other_name}
use Rattle.room_cache.proofs.Left.{others_left}
use Rattle.room_cache.proofs.SlotsKept.{no_slots}
use Rattle.room_cache.proofs.known.Known.forget.Goals as goal

pub returns-in-PutSession : goal.returns-in-PutSession
returns-in-PutSession c =
    let row = c.in-PutSession.row in
    let P : Change → Type 0 = λ change. IsLeft (change ∷ []) c.args.self.now
    (record c.args.self.now { sessions = c.forget-in-PutSession.new.self }) in
    subst P (sym c.in-PutSession.is) (record {
      sessions = λ sid held is.
          let was = c.forget-in-PutSession.ensures.rows sid held is in (
            was.0,
            (
              (λ r. elim (name_test sid row.sid) [
                | inl same ↦ absurd (other_name row.sid sid was.1 same.0)
                | inr other ↦ ap (λ test. cond test (Some row) (r.session sid)) other.1
              ]),
              tt,
            ),
          );
      nodes = λ id node held. (held, ((λ r. refl), tt));
      lists = λ id list held. (held, ((λ r. refl), tt));
      decisions = λ id made held. (held, ((λ r. refl), tt));
      slots = λ r are. are;
      next = search rules;
    })

pub returns-in-PutSlot : goal.returns-in-PutSlot
returns-in-PutSlot c =
    let row = c.in-PutSlot.row in
    let P : Change → Type 0 = λ change. IsLeft (change ∷ []) c.args.self.now c.replace_slot.new.self in
    subst P (sym c.in-PutSlot.is) (others_left (PutSlot row) c.args.self.now c.replace_slot.new.self
    c.replace_slot.ensures.others c.replace_slot.ensures.slots
    (λ r. refl) (λ r. refl))

pub returns-in-DropSlots : goal.returns-in-DropSlots
returns-in-DropSlots c =
    let P : Change → Type 0 = λ change. IsLeft (change ∷ []) c.args.self.now
    (record c.args.self.now { slots = c.clear.new.self }) in
    subst P (sym c.in-DropSlots.is) (others_left (DropSlots c.in-DropSlots.field-0) c.args.self.now
    (record c.args.self.now { slots = c.clear.new.self }) refl
    (λ r are. no_slots (apply_change (DropSlots c.in-DropSlots.field-0) r) c.clear.new.self c.clear.ensures)
    (λ r. refl) (λ r. refl))
