use Rattle.room_report.proofs.Common.{◌≡◌, ◌++◌, take, flat_map, head_line, entry_line, shown_path}
use Rattle.room_report.proofs.lines.list_lines.Given as goal

-- the object's line, and those of the entries so far
abbrev pub invariant-loop-entry : goal.invariant-loop-entry
invariant-loop-entry l = l.lines.items
    ≡ head_line l.item.kind l.item.aclflag l.item.standing.owner l.item.standing.group (shown_path l.item.names.items)
    ++ flat_map entry_line (take l.entry-index l.item.list.items)
