use Rattle.std.specs.Prelude.{option_map, string_bytes}
use Rattle.room_program.proofs.Common.{ServesEach, Comes, ServedTo, roll}
use Rattle.room_program.proofs.network.accept_each.Given as goal

-- so many connections came and were served, each to the users that counted then
abbrev pub invariant-loop-taken : goal.invariant-loop-taken
invariant-loop-taken g l =
    ServesEach (Comes g.M.Machine.does g.M.Listener.accepts l.path) (ServedTo g.S.Shelf.view) l.taken
    (l.fn.machine, roll l.fn.first.roster (option_map string_bytes l.fn.first.text))
    (l.machine, roll l.known.roster (option_map string_bytes l.known.text)) l.fn.desk l.desk
