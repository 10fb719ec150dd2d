-- What the rows say of a session is what the history says.
use Rattle.room_desk.proofs.Common.{◌≡◌, ℕ, arith, true, false, List, None, Some, bytes_eq, common_steps, SubjectModel}
use Rattle.room_desk.proofs.Common.{SessionRow, Records, Room, Done, BadSession, reply_text, Close, Reply, Refused}
use Rattle.room_desk.proofs.Common.{History, session_of, is_open_for, slots_of, answer_to, RepresentsHistory, is_usable}

module _ {start : Room} {r : Records} {past : History} (stand : RepresentsHistory start r past) (name : List ℕ) where
  pub no_session : r.session name ≡ None → session_of past name ≡ None
  no_session none = grind (arith, common_steps, stand.sessions name)

  module _ (row : SessionRow) (some : r.session name ≡ Some row) where
    pub usable : (caller : SubjectModel) → is_open_for name caller (session_of past name) ≡ is_usable caller row
    usable caller = grind (arith, common_steps, stand.sessions name)

    pub as_many : slots_of (session_of past name) ≡ row.slots
    as_many = grind (arith, common_steps, stand.sessions name)

    pub close_owned : (caller : SubjectModel) → bytes_eq row.owner caller.name ≡ true
        → answer_to start past (Close caller name) ≡ Reply (reply_text Done)
    close_owned caller mine = grind (arith, common_steps, stand.sessions name)

    pub close_refused : (caller : SubjectModel) → bytes_eq row.owner caller.name ≡ false
        → answer_to start past (Close caller name) ≡ Refused BadSession
    close_refused caller other = grind (arith, common_steps, stand.sessions name)
