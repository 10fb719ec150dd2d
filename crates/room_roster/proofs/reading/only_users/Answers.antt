use Rattle.std.proofs.Common.{sym, ◌∙◌}
use Rattle.toml.specs.View.{members_view}
use Rattle.toml.proofs.Views.{table_get}
use Rattle.room_roster.proofs.UserTables.{users_key, one_member, some_users, no_users, found_users}
use Rattle.room_roster.proofs.reading.only_users.Goals as goal

pub returns-then-len-ne1-clause-none : goal.returns-then-len-ne1-clause-none
returns-then-len-ne1-clause-none c users e =
    c.if-len-ne1.true (c.len.ensures.len ∙ one_member c.args.document.now.entries users e)

pub returns-in-Some-clause-some : goal.returns-in-Some-clause-some
returns-in-Some-clause-some c =
    let entries = c.args.document.now.entries in
    some_users entries c.in-Some.users.now c.as_table.result (sym c.len.ensures.len ∙ c.if-len-ne1.false)
    (rw c.in-Some.is at (sym (table_get c.get.result users_key entries c.get.ensures.value))) c.as_table.ensures

pub returns-in-Some-clause-none : goal.returns-in-Some-clause-none
returns-in-Some-clause-none c =
    let entries = c.args.document.now.entries in
    no_users entries c.in-Some.users.now c.as_table.result
    (rw c.in-Some.is at (sym (table_get c.get.result users_key entries c.get.ensures.value))) c.as_table.ensures

pub returns-in-None-clause-none : goal.returns-in-None-clause-none
returns-in-None-clause-none c users e =
    let entries = c.args.document.now.entries in
    let none = rw c.in-None.is at (sym (table_get c.get.result users_key entries c.get.ensures.value)) in
    cc (none, found_users (members_view entries) users e)
