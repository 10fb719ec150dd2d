use Rattle.room_desk.proofs.LeftShows.{stand_alike}
use Rattle.room_desk.proofs.NeverFull.{never_full}
use Rattle.room_desk.proofs.NumberedAnew.{represents_anew}
use Rattle.room_desk.proofs.laws.rows_numbered_anew_stand_for_the_same_history.Goals as goal

pub returns-clause-room : goal.returns-clause-room
returns-clause-room c = λ to old anew room more stand are next. represents_anew to old anew are room stand more next

pub returns-clause-history : goal.returns-clause-history
returns-clause-history c = λ to start r other past more stand never are next session slot.
    stand_alike more start r other past never stand
    (represents_anew to r.objects other.objects are _ stand.room more next) session slot

pub returns-clause-never_full : goal.returns-clause-never_full
returns-clause-never_full c = never_full
