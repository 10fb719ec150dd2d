-- Worked examples, computed by the definitions: sessions, repeats and numbers.
use Rattle.room_desk.proofs.Common.{◌≡◌, ℕ, refl, Bool, true, false, List, [], ◌∷◌, length, codes, SubjectModel}
use Rattle.room_desk.proofs.Common.{CommandModel, Room, fresh_room, BadSession, BadSlot, SeqMisordered, SeqFalseRetry}
use Rattle.room_desk.proofs.Common.{SessionTaken, RetryUncached, EventModel, Open, Close, Slot, Reply, Refused, History}
use Rattle.room_desk.proofs.Common.{answer_to, accepted}
use Rattle.serde_json.proofs.OnLiterals.{serde_json_on_literals}
use Rattle.std.specs.Fmt.{digits}
use Rattle.room_commands.specs.CommandModel as C

abbrev ann : SubjectModel
ann = record { name = codes "ann"; groups = codes "eng" ∷ [] }

abbrev bob : SubjectModel
bob = record { name = codes "bob"; groups = codes "eng" ∷ codes "staff" ∷ [] }

abbrev start : Room
start = fresh_room (codes "ann") (codes "eng")

-- one letter stands for the 32 digits of a session name
abbrev s : List ℕ
s = codes "a"

abbrev keeping : Bool → ℕ → ℕ → CommandModel → EventModel
keeping keep slot seq command =
    Slot (record { caller = ann; sid = s; slot = slot; seq = seq; command = command; keep = keep })

abbrev by_ann : ℕ → ℕ → CommandModel → EventModel
by_ann = keeping true

abbrev stat_root : CommandModel
stat_root = C.Stat []

abbrev opened : History
opened = Open ann s 3 ∷ []

abbrev tried : History
tried = by_ann 2 0 stat_root ∷ opened

zero_is_misordered : answer_to start opened (by_ann 2 0 stat_root) ≡ Refused SeqMisordered
zero_is_misordered = refl

two_is_misordered : answer_to start tried (by_ann 2 2 stat_root) ≡ Refused SeqMisordered
two_is_misordered = refl

no_such_slot : answer_to start opened (by_ann 3 1 stat_root) ≡ Refused BadSlot
no_such_slot = refl

no_session : answer_to start [] (by_ann 0 1 stat_root) ≡ Refused BadSession
no_session = refl

taken_by_another : answer_to start opened (Open bob s 3) ≡ Refused SessionTaken
taken_by_another = refl

other_count : answer_to start opened (Open ann s 2) ≡ Refused SessionTaken
other_count = refl

closed_for_good : answer_to start (Close ann s ∷ opened) (Open ann s 3) ≡ Refused BadSession
closed_for_good = refl

not_closed_by_another : answer_to start (Close bob s ∷ opened) (by_ann 3 1 stat_root) ≡ Refused BadSlot
not_closed_by_another = refl

abbrev once : History
once = by_ann 2 1 stat_root ∷ opened

another_command : answer_to start (by_ann 2 1 stat_root ∷ opened) (by_ann 2 1 (C.ListNames [])) ≡ Refused SeqFalseRetry
unfolding serde_json_on_literals digits
another_command = refl

counted_once : length (accepted (by_ann 2 1 stat_root ∷ by_ann 2 1 stat_root ∷ opened) s 2) ≡ 1
counted_once = refl

listed : answer_to start opened (by_ann 1 1 (C.ListNames [])) ≡ Reply (codes "{\"code\":0,\"names\":[]}")
unfolding serde_json_on_literals digits
listed = refl

opened_reply : answer_to start [] (Open ann s 3) ≡ Reply (codes "{\"code\":0,\"slots\":3}")
unfolding serde_json_on_literals digits
opened_reply = refl

stat_reply : answer_to start opened (by_ann 2 1 stat_root)
    ≡ Reply (codes "{\"aclflag\":0,\"code\":0,\"group\":\"eng\",\"kind\":\"folder\",\"owner\":\"ann\",\"size\":0}")
unfolding serde_json_on_literals digits
stat_reply = refl

repeated : answer_to start once (by_ann 2 1 stat_root)
    ≡ Reply (codes "{\"aclflag\":0,\"code\":0,\"group\":\"eng\",\"kind\":\"folder\",\"owner\":\"ann\",\"size\":0}")
unfolding serde_json_on_literals digits
repeated = refl

-- a reply that need not be kept: the same number with the same command, however it is sent again, and with another
abbrev dropped : History
dropped = keeping false 0 1 stat_root ∷ opened

first_is_answered : answer_to start opened (keeping false 0 1 stat_root) ≡ answer_to start opened (by_ann 0 1 stat_root)
first_is_answered = refl

repeat_is_uncached : answer_to start dropped (keeping false 0 1 stat_root) ≡ Refused RetryUncached
unfolding serde_json_on_literals digits
repeat_is_uncached = refl

keeping_repeat_is_uncached : answer_to start dropped (by_ann 0 1 stat_root) ≡ Refused RetryUncached
unfolding serde_json_on_literals digits
keeping_repeat_is_uncached = refl

other_command_is_a_false_retry : answer_to start dropped (by_ann 0 1 (C.ListNames [])) ≡ Refused SeqFalseRetry
unfolding serde_json_on_literals digits
other_command_is_a_false_retry = refl

dropped_is_counted : length (accepted (keeping false 0 1 stat_root ∷ dropped) s 0) ≡ 1
dropped_is_counted = refl

-- the accepted request decides, and not its repeat
kept_for_a_repeat : answer_to start once (keeping false 2 1 stat_root) ≡ answer_to start once (by_ann 2 1 stat_root)
kept_for_a_repeat = refl
