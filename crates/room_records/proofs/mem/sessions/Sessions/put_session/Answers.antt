use Rattle.room_records.proofs.Common.{refl}
use Rattle.room_records.proofs.SessionKeys.{put_row, still_counted}
use Rattle.room_records.proofs.mem.sessions.Sessions.put_session.Goals as goal

pub returns-clause-sessions : goal.returns-clause-sessions
returns-clause-sessions c = put_row _ _ c.args.row _ refl c.put.ensures.held

pub invariant_of-self : goal.invariant_of-self
invariant_of-self c = record {
  few = c.args.self.now.few;
  counted = still_counted _ _ c.args.row c.args.self.now.counted c.get-count.ensures.lawful.1
      (put_row _ _ c.args.row _ refl c.put.ensures.held);
}
