use Rattle.room_wire.proofs.Common.{◌≡◌, ◌++◌, List, drop, option_map, items_view, EntryModel, all_among, entry_in}
use Rattle.room_wire.proofs.forms.reading.entries_in.Given as goal

abbrev pub invariant-loop-value : goal.invariant-loop-value
invariant-loop-value l =
    all_among entry_in (items_view l.values) ≡ option_map (λ (rest : List EntryModel). l.entries.items ++ rest)
    (all_among entry_in (items_view (drop l.value-index l.values)))
