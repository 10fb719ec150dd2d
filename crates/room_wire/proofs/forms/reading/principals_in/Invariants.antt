use Rattle.room_wire.proofs.Common.{◌≡◌, ◌++◌, ℕ, List, drop, option_map, items_view, all_among, principal_in}
use Rattle.room_wire.proofs.forms.reading.principals_in.Given as goal

abbrev pub invariant-loop-value : goal.invariant-loop-value
invariant-loop-value l =
    all_among principal_in (items_view l.values) ≡ option_map (λ (rest : List (List ℕ)). l.names.items ++ rest)
    (all_among principal_in (items_view (drop l.value-index l.values)))
