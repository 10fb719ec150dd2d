use Rattle.std.proofs.Common.{rules, ◌≡◌, ◌∷◌, [], ◌∙◌, arith, Err}
use Rattle.std.proofs.lemmas.Grind.{common_steps}
use Rattle.toml.specs.View.{table_view}
use Rattle.toml.proofs.Views.{Entry}
use Rattle.room_roster.specs.Rosters.{table_of_users}
use Rattle.room_roster.specs.declared.fault.RosterFault.TheVariants.{Bad}
use Rattle.room_roster.proofs.UserTables.{first, turn, refused}
use Rattle.room_roster.proofs.NameLists.{reads_all}
use Rattle.room_roster.proofs.users.users.Goals as goal

pub loop-name-init : goal.loop-name-init
loop-name-init c =
    let start : c.into_iter-name-iterator.result ≡ c.args.table.now.entries =
    c.into_iter-name-iterator.ensures.into_iter_gives ∙ c.iter-name-items.ensures.rest in
    rw (start, c.empty-roster.ensures) (first c.args.table.now.entries c.iter-name-items.ensures.ordered)

pub loop-name-preserved : goal.loop-name-preserved
loop-name-preserved c =
    let e : Entry = (c.in-Some.name.now, c.in-Some.value.now) in
    let iter : c.loop-name.name-iterator ≡ e ∷ c.next.new.self = grind (arith, common_steps) in
    let (groups, is, named, joins, new_is) = c.in_ok-add_user.ensures.ok in
    turn (table_view c.args.table.now) c.next.new.self c.loop-name.roster c.add_user.new.roster e c.as_str.result.now
    groups (search rules) (rw iter at c.loop-name.invariant) is named new_is (rw c.roster.view_is at c.roster.invariant)

pub returns-in_err-add_user-clause-bad : goal.returns-in_err-add_user-clause-bad
returns-in_err-add_user-clause-bad c is users users_are lawful =
    let e : Entry = (c.in-Some.name.now, c.in-Some.value.now) in
    let iter : c.loop-name.name-iterator ≡ e ∷ c.next.new.self = grind (arith, common_steps) in
    let bad : c.add_user.result ≡ Err Bad = grind (arith, common_steps) in
    refused (table_view c.args.table.now) c.next.new.self c.loop-name.roster users e
    c.as_str.result.now (search rules) (rw iter at c.loop-name.invariant) users_are lawful (c.add_user.ensures.bad bad)

pub returns-clause-ok : goal.returns-clause-ok
returns-clause-ok c =
    let over : c.loop-name.name-iterator ≡ [] = grind (arith, common_steps) in
    let so = rw over at c.loop-name.invariant in
    (reads_all table_of_users (table_view c.args.table.now) c.loop-name.roster so.reads, so.lawful)
