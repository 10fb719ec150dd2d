use Rattle.room_report.proofs.Common.{◌≡◌, take, flat_map, SubjectModel, mask_line, shown_path}
use Rattle.room_acl.specs.Access.{allowed_mask}
use Rattle.room_report.proofs.lines.access_lines.Given as goal

-- the lines of the users so far
abbrev pub invariant-loop-user : goal.invariant-loop-user
invariant-loop-user l = l.lines.items
    ≡ flat_map (λ (user : SubjectModel). mask_line (allowed_mask l.item.list.items user l.item.standing)
    user.name (shown_path l.item.names.items)) (take l.user-index l.users)
