use Rattle.room_program.proofs.Common.{ap, sym, subst, [], Records, fresh_room, RepresentsHistory, stand_at_first}
use Rattle.room_records.specs.declared.mem.MemShelf.{MemShelf}
use Rattle.room_records.specs.Mem.{mem_records}
use Rattle.room_program.proofs.replaying.fresh_desk.Goals as goal

pub returns-clause-stands : goal.returns-clause-stands
returns-clause-stands c =
    let room = fresh_room c.args.standing.owner c.args.standing.group in
    let Stands : MemShelf → Type 0 = λ shelf. RepresentsHistory room (mem_records shelf) [] in
    subst Stands (sym c.new.ensures) (stand_at_first room (mem_records c.in_ok-shelf.shelf) c.in_ok-shelf.ensures.stands
    (λ sid. ap (λ (r : Records). r.session sid) c.in_ok-shelf.ensures.rows)
    (λ sid slot. ap (λ (r : Records). r.slot sid slot) c.in_ok-shelf.ensures.rows))
