use native.Mathlib.Numerals.{unary_clauses}
use Rattle.std.specs.Prelude.{option_map}
use Rattle.room_program.proofs.Common.{◌≡◌, arith, string_bytes, Comes, Misses, Roll, ServedTo, roll}
use Rattle.room_program.specs.Calls.{ServesFewer}
use Rattle.room_program.proofs.Faults.{on_fault}
use Rattle.room_program.proofs.network.accept_each.Goals as goal

pub returns-in_err-known-clause-fewer : goal.returns-in_err-known-clause-fewer
returns-in_err-known-clause-fewer g c =
    let (end, missed) = c.in_err-known.ensures.missed in
    let fewer : (last : Roll) × ServesFewer (Comes g.M.Machine.does g.M.Listener.accepts c.args.path.now)
    (Misses g.M.Machine.does g.M.Listener.fails c.args.path.now) (ServedTo g.S.Shelf.view) c.args.count
    (c.args.machine.now, roll c.args.first.roster (option_map string_bytes c.args.first.text))
    (c.accept_one.new.machine, last) c.args.desk.now c.accept_one.new.desk = (
      end,
      (
        c.loop-taken.taken,
        c.loop-taken-test.true,
        (c.loop-taken.machine, roll c.loop-taken.known.roster (option_map string_bytes c.loop-taken.known.text)),
        rw c.in_err-known.ensures.unserved c.loop-taken.invariant,
        missed,
      ),
    ) in on_fault _ fewer

pub loop-taken-preserved : goal.loop-taken-preserved
loop-taken-preserved g c = simp unary_clauses (
  (c.loop-taken.machine, roll c.loop-taken.known.roster (option_map string_bytes c.loop-taken.known.text)),
  c.loop-taken.desk,
  c.loop-taken.invariant,
  c.in_ok-known.ensures.served,
)

pub returns-clause-served : goal.returns-clause-served
returns-clause-served g c =
    let all : c.args.count ≡ c.loop-taken.taken = omega (arith, c.loop-taken-test.false, c.loop-taken.auto.taken-end) in
    (roll c.loop-taken.known.roster (option_map string_bytes c.loop-taken.known.text), rw all c.loop-taken.invariant)
