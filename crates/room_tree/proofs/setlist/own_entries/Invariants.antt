use Rattle.room_tree.proofs.Common.{◌≡◌, ◌++◌, drop, filter_map, kept_entry}
use Rattle.room_tree.proofs.setlist.own_entries.Given as goal

-- what was kept so far, and what the rest leaves, is what the whole list leaves
abbrev pub invariant-loop-entry : goal.invariant-loop-entry
invariant-loop-entry l = l.own.items ++ filter_map (kept_entry l.follows) (drop l.entry-index l.sent)
    ≡ filter_map (kept_entry l.follows) l.sent
