use Rattle.room_report.proofs.Common.{ap, flat_map, Lists, list_text, lines_of}
use Rattle.room_report.proofs.Below.{all_below_root}
use Rattle.room_report.proofs.Sent.{reported}
use Rattle.room_report.proofs.reports.list_report.Goals as goal

pub returns-clause-value : goal.returns-clause-value
returns-clause-value g c =
    reported Lists list_text _ _ _ _ c.report_room.result
    (λ room stand. ap (flat_map (lines_of Lists room)) (all_below_root room stand.lawful))
    c.report_room.ensures.value c.report_room.ensures.there
