use Rattle.room_wire.proofs.Common.{arith, inl}
use Rattle.room_wire.proofs.Lemmas.Messages.Boundaries.{window_is, some_when, none_when}
use Rattle.room_wire.proofs.Lemmas.Messages.Fronts.{none_empty, none_by_head, never_by_overflow, never_by_head}
use Rattle.room_wire.proofs.Lemmas.Messages.Lacking.{lacks_head, lacks_all}
use Rattle.room_wire.proofs.messages.taking.take_message.Goals as goal

pub take_body-requires-clause-window : goal.take_body-requires-clause-window
take_body-requires-clause-window c = window_is _ _ c.min.ensures

pub returns-else-input-lt-MAX_HEAD : goal.returns-else-input-lt-MAX_HEAD
returns-else-input-lt-MAX_HEAD c = (
  never_by_head _ _ (window_is _ _ c.min.ensures) c.if-input-lt-MAX_HEAD.false
      (rw c.in-Ok-Partial.field-0-is at c.in-Ok-Partial.ensures.partial),
  omega arith,
)

pub returns-in-Err : goal.returns-in-Err
returns-in-Err c =
    (never_by_overflow _ _ (window_is _ _ c.min.ensures) c.in-Err.ensures.no_room, some_when _ c.if-is_empty.ensures)

pub returns-then-is_empty : goal.returns-then-is_empty
returns-then-is_empty c = let none = none_when _ c.if-is_empty.ensures in
    (none_empty _ none, omega arith, inl (lacks_all _ none))

pub returns-then-input-lt-MAX_HEAD : goal.returns-then-input-lt-MAX_HEAD
returns-then-input-lt-MAX_HEAD c =
    let window = window_is _ _ c.min.ensures in
    let none = rw c.in-Ok-Partial.field-0-is at c.in-Ok-Partial.ensures.partial in
    let may = rw c.in-Ok-Partial.field-0-is at c.in-Ok-Partial.ensures.unfinished in (
      none_by_head _ _ window (omega arith) none,
      omega arith,
      inl (lacks_head _ _ window c.if-input-lt-MAX_HEAD.true none may),
    )
