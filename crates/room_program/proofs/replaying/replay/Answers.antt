use Rattle.room_program.proofs.Common.{ℕ, List, [], subst, inr, fresh_room, RepresentsHistory}
use Rattle.room_records.specs.Mem.{mem_records}
use Rattle.room_program.proofs.replaying.replay.Goals as goal

pub returns : goal.returns
returns g c =
    let (owner_is, group_is, names) = c.in_ok-standing.ensures.ok in
    let rows = mem_records c.in_ok-desk.desk in
    let Owned : List ℕ → Type 0 =
    λ owner. RepresentsHistory (fresh_room owner c.in_ok-standing.standing.group) rows [] in
    let Grouped : List ℕ → Type 0 = λ group. RepresentsHistory (fresh_room c.args.owner.now group) rows [] in
    let stands = subst Grouped group_is (subst Owned owner_is c.in_ok-desk.ensures.stands) in
    let (why, count, next, done_is, serves) =
    c.serve_to_end.ensures (fresh_room c.args.owner.now c.args.group.now) [] stands in
    inr (names, c.in_ok-roster.roster, c.in_ok-roster.ensures, why, count, next, done_is, serves)
