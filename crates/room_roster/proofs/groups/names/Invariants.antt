use Rattle.std.proofs.Common.{drop}
use Rattle.std.specs.List.{AllByRecursion}
use Rattle.toml.specs.View.{items_view}
use Rattle.room_acl.specs.Principals.{IsPrincipal}
use Rattle.room_roster.specs.Rosters.{list_of_names}
use Rattle.room_roster.proofs.NameLists.{Reads}
use Rattle.room_roster.proofs.groups.names.Given as goal

abbrev pub invariant-loop-value : goal.invariant-loop-value
invariant-loop-value l =
    Reads list_of_names (items_view l.values) (items_view (drop l.value-index l.values)) l.names.items
    × AllByRecursion IsPrincipal l.names.items
