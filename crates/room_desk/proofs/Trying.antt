-- Calls that try an event: by reads alone, by a commit, and after a read.
use Rattle.room_desk.proofs.Common.{◌≡◌, ◌∙◌, refl, subst, false, true, inl, inr, ◌∷◌, None, Result, Ok, Err, IfOk}
use Rattle.room_desk.proofs.Common.{OnOk, both_ways, ShelfFault, Store, Records, Room, View, ShelfCall, ShelfRead}
use Rattle.room_desk.proofs.Common.{fault_in, LeavesOldOrNew, call_then, none_not_store, Answer, Delay, Event}
use Rattle.room_desk.proofs.Common.{EventModel, Slot, Refused, answer_model, IsTurnedAway, History, answer_to}
use Rattle.room_desk.proofs.Common.{changes_rows, RepresentsHistory, StandsFor, EventChangesFew, Answered}
use Rattle.room_desk.specs.Trying.{EventTried, JoinsHistory}
use Rattle.room_desk.proofs.Alike.{stand_after_idle}
use Rattle.room_desk.proofs.Crashes.{leaves_either}
use Rattle.room_desk.proofs.Results.{if_ok_then}

-- a call that answers Ok leaves the store there
pub there_where_ok : {a b : View} (r : Result Answer ShelfFault) → ShelfCall a b (fault_in r)
    → (b.is_intact → a.is_available) → b.is_intact → OnOk r b.is_available
there_where_ok (Ok answer) call there intact = call.alive intact (there intact)
there_where_ok (Err fault) call there intact = tt

-- an event that changes nothing is no accepted request, and leaves the same rows
pub idle_few : (start : Room) (past : History) (event : EventModel) (old new : Records)
    → changes_rows past event ≡ false → new ≡ old → EventChangesFew start past event old new
idle_few start past (Slot q) old new idle same = λ accepted. absurd (both_ways _ idle accepted)
idle_few start past event old new idle same = rw same refl

-- reads alone: the answer is the history's, to an event that changes nothing
pub joins_by_reads : {start : Room} {past : History} {event : EventModel} {a b : View} {r : Result Answer ShelfFault}
    → ShelfRead a b (fault_in r) → StandsFor start past a
    → (b.is_available → a.is_laid_out → RepresentsHistory start a.records past →
    IfOk r (λ answer. (answer_model answer ≡ answer_to start past event) × (changes_rows past event ≡ false)))
    → JoinsHistory start past event a b r
joins_by_reads {start} {past} {event} {a} {b} {r} read stands says = record {
  step = λ h. let (d, stand) = stands (read.call.frame.was_available h) in if_ok_then r (says h d stand)
      (λ answer told. (told.0, rw (read.same h d) (stand_after_idle start a.records past event told.1 stand)));
  idle = λ h idle. read.same h (stands (read.call.frame.was_available h)).0;
  few = λ h. let (d, stand) = stands (read.call.frame.was_available h) in if_ok_then r (says h d stand)
      (λ answer told. idle_few start past event a.records b.records told.1 (read.same h d));
  crash = λ k left may. inl (read.crash left may);
  stays_laid_out = read.stays_laid_out;
}

-- no call: the same where nothing is asked of the shelf
pub joins_at_once : {start : Room} {past : History} {event : EventModel} {a : View} {answer : Answer}
    → RepresentsHistory start a.records past → answer_model answer ≡ answer_to start past event
    → changes_rows past event ≡ false → JoinsHistory start past event a a (Ok answer)
joins_at_once {start} {past} {event} {a} stand says idle = record {
  step = λ h. (says, stand_after_idle start a.records past event idle stand);
  idle = λ h idle. refl;
  few = λ h. idle_few start past event a.records a.records idle refl;
  crash = λ k left may. inl may;
  stays_laid_out = λ k l. l;
}

-- a commit that leaves rows like these, which stand for the history with the event
pub joins_by_commit : {start : Room} {past : History} {event : EventModel} {a b : View} {r : Result Answer ShelfFault}
    {Made : Records → Type 0} → a.is_available → changes_rows past event ≡ true
    → ((left : Records) → Made left → RepresentsHistory start left (event ∷ past))
    → ((left : Records) → Made left → EventChangesFew start past event a.records left)
    → (b.is_available → IfOk r (λ answer. (answer_model answer ≡ answer_to start past event) × Made b.records))
    → (b.is_intact → LeavesOldOrNew a b Made) → (b.is_intact → a.leaves_laid_out → b.leaves_laid_out)
    → JoinsHistory start past event a b r
joins_by_commit {start} {past} {event} {a} {b} {r} there changes stands few ok crash stays = record {
  step = λ h. if_ok_then r (ok h) (λ answer done. (done.0, stands b.records done.1));
  idle = λ h idle. absurd (both_ways _ idle changes);
  few = λ h. if_ok_then r (ok h) (λ answer done. few b.records done.1);
  crash = λ k left may. leaves_either (crash k left may) (λ old. old) (λ made. (there, (changes, stands left made)));
  stays_laid_out = stays;
}

-- a call after a read, which found the store there
module _ {event : EventModel} {a b c : View} {r : Result Answer ShelfFault} (read : ShelfRead a b None)
    (there : b.is_intact → b.is_available) (call : ShelfCall b c (fault_in r)) where
  pub joins_after_read : {start : Room} {past : History} → StandsFor start past a
      → (b.is_available → a.is_laid_out → RepresentsHistory start b.records past → JoinsHistory start past event b c r)
      → JoinsHistory start past event a c r
  joins_after_read {start} {past} stands then =
      let now : b.is_available → (b.records ≡ a.records) × JoinsHistory start past event b c r = λ h.
      (let (d, stand) = stands (read.call.frame.was_available h) in
      (read.same h d, then h d (rw (read.same h d) stand))) in record {
        step = λ h. (now (call.frame.was_available h)).1.step h;
        idle = λ h idle. (now (call.frame.was_available h)).1.idle h idle ∙ (now (call.frame.was_available h)).0;
        few = λ h. subst (λ old. IfOk r (λ answer. EventChangesFew start past event old c.records))
            (now (call.frame.was_available h)).0 ((now (call.frame.was_available h)).1.few h);
        crash = λ k left may.
            leaves_either ((now (there (call.frame.was_intact k))).1.crash k left may) (read.crash left)
            (λ made. (read.call.frame.was_available made.0, made.1));
        stays_laid_out = λ k l.
            let mid = call.frame.was_intact k in (now (there mid)).1.stays_laid_out k (read.stays_laid_out mid l);
      }

  pub tried_after_read : (c.is_available → b.is_laid_out →
      IfOk r (λ answer. IsTurnedAway (answer_model answer) → c.records ≡ b.records))
      → ((start : Room) (past : History) → b.is_available → a.is_laid_out → RepresentsHistory start b.records past →
      JoinsHistory start past event b c r) → EventTried event a c r
  tried_after_read refused joins = record {
    there = there_where_ok r call (λ k. there (call.frame.was_intact k));
    frame = call_then a b c (fault_in r) call read;
    refused = λ h d. if_ok_then r (refused h (read.call.frame.laid_out (call.frame.was_available h) d))
        (λ answer same away. same away ∙ read.same (call.frame.was_available h) d);
    joins = λ start past stands. joins_after_read stands (joins start past);
  }

-- an event that was tried is answered; where the call gave up, with DELAY
module _ {event : EventModel} {a b : View} where
  pub answered_ok : {answer : Answer} → EventTried event a b (Ok answer)
      → Answered (Ok (Event event)) a (answer_model answer) b
  answered_ok tried = record {
    frame = tried.frame.frame;
    quiet = λ other. tried.frame.quiet (none_not_store Store);
    alive = λ k asked is other. tried.there k;
    step = λ k start past stands.
        let step = (tried.joins start past stands).step (tried.there k) in (
          event ∷ past,
          inl (step.0, refl),
          λ h. (tried.frame.frame.laid_out h (stands (tried.frame.frame.was_available h)).0, step.1),
        );
    refused = tried.refused;
    idle = λ h d start past stand. (tried.joins start past (λ _. (d, stand))).idle h;
    few = λ h d start past stand other. (tried.joins start past (λ _. (d, stand))).few h;
    crash = λ k start past stands. (tried.joins start past stands).crash k;
    stays_laid_out = λ k start past stands. (tried.joins start past stands).stays_laid_out k;
    alone = λ asks. absurd (cc);
  }

  pub answered_err : {fault : ShelfFault} → EventTried event a b (Err fault)
      → Answered (Ok (Event event)) a (Refused Delay) b
  answered_err {fault} tried = record {
    frame = tried.frame.frame;
    quiet = λ other. absurd (other refl);
    alive = λ k asked is other. absurd (other refl);
    step = λ k start past stands. (
      past,
      inr (refl, refl),
      λ h.
          let stood = stands (tried.frame.frame.was_available h) in
          (tried.frame.frame.laid_out h stood.0, rw (tried.frame.undone h stood.0) stood.1),
    );
    refused = λ h d away. tried.frame.undone h d;
    idle = λ h d start past stand. (tried.joins start past (λ _. (d, stand))).idle h;
    few = λ h d start past stand other. absurd (other refl);
    crash = λ k start past stands. (tried.joins start past stands).crash k;
    stays_laid_out = λ k start past stands. (tried.joins start past stands).stays_laid_out k;
    alone = λ asks. absurd (cc);
  }
