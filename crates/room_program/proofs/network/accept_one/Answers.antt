use Rattle.std.specs.Prelude.{option_map}
use Rattle.room_program.proofs.Common.{refl, inl, inr, string_bytes, Misses, Roll, roll}
use Rattle.room_program.specs.Rolls.{visit}
use Rattle.room_program.proofs.Faults.{on_fault}
use Rattle.room_program.proofs.network.accept_one.Goals as goal

pub returns-in_err-wait_next-clause-missed : goal.returns-in_err-wait_next-clause-missed
returns-in_err-wait_next-clause-missed g c =
    let first = roll c.args.known.roster (option_map string_bytes c.args.known.text) in
    let missed : (last : Roll) × Misses g.M.Machine.does g.M.Listener.fails c.args.path.now
    (c.args.machine.now, first) (c.wait_next.new.self, last)
    = (first, record { how = inl (c.in_err-wait_next.ensures.waited, refl) }) in
    on_fault _ missed

pub returns-in_err-serve_next-clause-missed : goal.returns-in_err-serve_next-clause-missed
returns-in_err-serve_next-clause-missed g c =
    let first = roll c.args.known.roster (option_map string_bytes c.args.known.text) in
    let missed : (last : Roll) × Misses g.M.Machine.does g.M.Listener.fails c.args.path.now
    (c.args.machine.now, first) (c.serve_next.new.self, last) = (
      roll c.renew-after.result.roster (option_map string_bytes c.renew-after.result.text),
      record {
        how = inr (
          c.wait_next.new.self,
          c.renew-after.new.machine,
          c.in_ok-wait_next.ensures.waited,
          c.renew-after.ensures,
          c.in_err-serve_next.ensures.err,
        );
      },
    ) in on_fault _ missed

pub returns-clause-served : goal.returns-clause-served
returns-clause-served g c =
    let (e, took, served) = c.in_ok-serve_next.ensures.ok in (
      visit c.renew-after.result.roster e,
      record {
        came = c.wait_next.new.self;
        looked = c.renew-after.new.machine;
        waited = c.in_ok-wait_next.ensures.waited;
        reread = c.renew-after.ensures;
        users = refl;
        taken = took;
      },
      served,
    )
