use Rattle.room_report.proofs.Common.{ap, ◌∙◌, flat_map, Access, access_text, lines_of}
use Rattle.room_report.proofs.Below.{all_below_root}
use Rattle.room_report.proofs.Sent.{reported}
use Rattle.room_report.proofs.reports.access_report.Goals as goal

pub returns-clause-value : goal.returns-clause-value
returns-clause-value g c =
    reported (Access c.in_ok-users.users) (λ room. access_text room c.args.roster.now) _ _ _ _ c.report_room.result
    (λ room stand. ap (flat_map (lines_of (Access c.in_ok-users.users) room)) (all_below_root room stand.lawful)
    ∙ ap (access_text room) c.in_ok-users.ensures)
    c.report_room.ensures.value c.report_room.ensures.there
