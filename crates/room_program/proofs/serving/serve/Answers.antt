use Rattle.std.specs.Prelude.{option_map}
use Rattle.room_program.proofs.Common.{inl, inr, roll, string_bytes}
use Rattle.room_program.proofs.Faults.{handed_on}
use Rattle.room_program.proofs.serving.serve.Goals as goal

pub returns : goal.returns
returns g c =
    let closed = rw c.connection_under.ensures at c.give_up.ensures.given_up in
    inr (
      roll c.in_ok-first.first.roster (option_map string_bytes c.in_ok-first.first.text),
      c.roll_at.new.machine,
      c.in_ok-first.ensures.ok,
      inr (
        c.in_ok-shelf.shelf,
        c.listen_over-done.result.1,
        c.take_room.new.machine,
        c.listen_over-done.new.machine,
        c.in_ok-shelf.ensures,
        c.listen_over-done.ensures,
        closed,
      ),
    )

pub returns-in_err-shelf : goal.returns-in_err-shelf
returns-in_err-shelf g c =
    inr (
      roll c.in_ok-first.first.roster (option_map string_bytes c.in_ok-first.first.text),
      c.roll_at.new.machine,
      c.in_ok-first.ensures.ok,
      inl (
        c.in_err-shelf.field-0.0,
        handed_on _ _ c.from_residual-in_err-shelf.ensures.0 c.from_residual-in_err-shelf.ensures.1,
        c.in_err-shelf.ensures,
      ),
    )
