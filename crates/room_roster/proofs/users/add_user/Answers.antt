use Rattle.std.proofs.Common.{◌≡◌, sym, ◌∙◌, refl, Bool, true, false, Result, Ok, Err, if◌then◌else◌}
use Rattle.room_records.specs.Roster.{may_join}
use Rattle.room_roster.specs.declared.fault.RosterFault.{RosterFault}
use Rattle.room_roster.specs.declared.fault.RosterFault.TheVariants.{Bad}
use Rattle.room_roster.specs.Rosters.{list_of_names}
use Rattle.room_roster.proofs.UserTables.{list_of_names-injective}
use Rattle.room_roster.proofs.users.add_user.Goals as goal

not_joined : (joined : Bool) (r : Result (Unit {0}) RosterFault) → r ≡ (if joined then Ok tt else Err Bad)
    → r ≡ Err Bad → joined ≡ false
not_joined true r is bad = absurd cc
not_joined false r is bad = refl

pub returns-clause-bad : goal.returns-clause-bad
returns-clause-bad c e groups is named =
    let (list_is, lawful) = c.in_ok-groups.ensures.ok in
    let same : list_of_names c.in_ok-groups.groups.items ≡ list_of_names groups = cc in
    let groups_are = list_of_names-injective c.in_ok-groups.groups.items groups same in
    let (name_is, principal) = c.in_ok-name.ensures.ok in
    let refused : may_join c.args.roster.now c.in_ok-name.name c.in_ok-groups.groups.items ≡ false =
    sym c.in_ok-joined.ensures.ok ∙ not_joined _ _ c.needs_joined.ensures e in
    rw (← name_is, ← groups_are) refused
