use Rattle.room_records.proofs.Common.{◌≡◌, ◌<◌, ap, ◌∙◌, arith, rules, length, insert, SubjectModel, max_users}
use Rattle.room_records.proofs.Rosters.{present, absent, inserted, roster_with, joins, joins_not}
use Rattle.room_records.proofs.roster.Roster.add.Goals as goal

pub returns-in_default-clause-ok : goal.returns-in_default-clause-ok
returns-in_default-clause-ok c =
    let found = present c.args.self.now c.args.user c.in_default.field-0
    (rw (c.as_slice.ensures.value ∙ c.self.view_is) at c.in_default.ensures) in
    joins_not c.args.self.now c.args.user c.args.groups.items found.0 found.1

pub returns-clause-ok : goal.returns-clause-ok
returns-clause-ok c =
    let place = rw (c.as_slice.ensures.value ∙ c.self.view_is) at c.in-Err.ensures in
    let few : length c.args.self.now < max_users = omega (arith, ap length c.self.view_is) in
    joins c.args.self.now c.args.user c.args.groups.items (omega arith) few
    (absent c.args.self.now c.args.user c.in-Err.place (rw c.self.view_is at c.self.invariant).in_order place)

pub returns-clause-users : goal.returns-clause-users
returns-clause-users c =
    let user : SubjectModel = record { name = c.args.user; groups = c.args.groups.items } in
    let place = rw (c.as_slice.ensures.value ∙ c.self.view_is) at c.in-Err.ensures in
    let items : c.insert.new.self.items ≡ insert c.args.self.now c.in-Err.place user = search rules in
    items ∙ inserted c.args.self.now user c.in-Err.place place

pub invariant_of-self-2 : goal.invariant_of-self-2
invariant_of-self-2 c =
    let user : SubjectModel = record { name = c.args.user; groups = c.args.groups.items } in
    let place = rw (c.as_slice.ensures.value ∙ c.self.view_is) at c.in-Err.ensures in
    let items : c.insert.new.self.items ≡ insert c.args.self.now c.in-Err.place user = search rules in
    let few : length c.args.self.now < max_users = omega (arith, ap length c.self.view_is) in
    rw (items ∙ inserted c.args.self.now user c.in-Err.place place)
    (roster_with c.args.self.now user (rw c.self.view_is at c.self.invariant) few (omega arith))
