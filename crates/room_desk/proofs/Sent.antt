-- Reads before a request is answered, and what is answered by them alone.
use Rattle.room_desk.proofs.Common.{◌≡◌, ◌≢◌, ◌∙◌, Bool, false, sym, subst, refl, ◌∷◌, Option, None, Some, Result, Err}
use Rattle.room_desk.proofs.Common.{IfOk, inl, inr, ShelfFault, Store, Room, View, ShelfCall, ShelfRead, fault_in}
use Rattle.room_desk.proofs.Common.{none_not_store, CommandModel, Answer, BadRequest, Delay, WireFault, event_asked}
use Rattle.room_desk.proofs.Common.{request_by, sent_event, EventModel, Request, Slot, AnswerModel, Refused}
use Rattle.room_desk.proofs.Common.{answer_model, IsTurnedAway, History, RepresentsHistory, StandsFor, AnswersText}
use Rattle.room_desk.proofs.Common.{found_by, found_for, Answered, may_ask_shelf}
use Rattle.room_wire.specs.declared.asks.routed.SentRequest.{SentRequest}
use Rattle.room_wire.specs.declared.fault.WireFault.TheVariants as W
use Rattle.room_wire.specs.Forms.Commands.{ReadsCommand, command_of_body}
use Rattle.room_wire.specs.Serving.CheckService.{fault_code}
use Rattle.room_desk.specs.declared.requests.Found.{Found}
use Rattle.room_desk.specs.Trying.{EventTried, JoinsHistory}
use Rattle.room_desk.proofs.Alike.{stand_after_idle}
use Rattle.room_desk.proofs.Bodies.{kept_text}
use Rattle.room_desk.proofs.Trying.{idle_few, tried_after_read}

-- rows that were read stand for what they stood for
stand_after_read : {a b : View} {fault : Option ShelfFault} → ShelfRead a b fault → (start : Room) (past : History)
    → StandsFor start past a → StandsFor start past b
stand_after_read read start past stands = λ h.
    let stood = stands (read.call.frame.was_available h) in
    (read.call.frame.laid_out h stood.0, rw (read.same h stood.0) stood.1)

-- an event, or what should have been one, may ask for rows
pub event_may_ask : (event : Option EventModel) → may_ask_shelf (event_asked event) ≢ false
event_may_ask None none = absurd (cc)
event_may_ask (Some event) none = absurd (cc)

-- what is answered DELAY after a read
pub delayed_by_read : (event : Option EventModel) (a b : View) (fault : Option ShelfFault)
    → ShelfRead a b fault → Answered (event_asked event) a (Refused Delay) b
delayed_by_read event a b fault read = record {
  frame = read.call.frame;
  quiet = λ other. absurd (other refl);
  alive = λ k asked is other. absurd (other refl);
  step = λ k start past stands. (past, inr (refl, refl), stand_after_read read start past stands);
  refused = λ h d away. read.same h d;
  idle = λ h d start past stand idle. read.same h d;
  few = λ h d start past stand other. absurd (other refl);
  crash = λ k start past stands left may. inl (read.crash left may);
  stays_laid_out = λ k start past stands. read.stays_laid_out k;
  alone = λ none. absurd (event_may_ask event none);
}

-- a body that asks no command is refused, after a read
refused_by_body : {a b : View} → ShelfRead a b None → (b.is_intact → b.is_available)
    → Answered (Err W.BadRequest) a (Refused BadRequest) b
refused_by_body {a} {b} read there = record {
  frame = read.call.frame;
  quiet = λ other. read.call.quiet (none_not_store Store);
  alive = λ k event is other. there k;
  step = λ k start past stands. (past, inl (refl, refl), stand_after_read read start past stands);
  refused = λ h d away. read.same h d;
  idle = λ h d start past stand idle. read.same h d;
  few = λ h d start past stand other. tt;
  crash = λ k start past stands left may. inl (read.crash left may);
  stays_laid_out = λ k start past stands. read.stays_laid_out k;
  alone = λ none. absurd (cc);
}

-- a body that is not read is refused, after a read of its slot
pub refused_after_read : (sent : SentRequest) (fault : WireFault) {a b : View}
    → ReadsCommand (command_of_body sent.body.now) (Err fault) → ShelfRead a b None → (b.is_intact → b.is_available)
    → Answered (event_asked (sent_event sent)) a (Refused (fault_code fault)) b
refused_after_read sent W.BadRequest {a} {b} none read there =
    let event : Option (CommandModel × Bool) → Option EventModel =
    request_by sent.subject (Some sent.sid) (Some sent.slot) (Some sent.seq) in
    subst (λ wanted. Answered (event_asked (event wanted)) a (Refused BadRequest) b) (sym none)
    (refused_by_body read there)
refused_after_read sent W.Memory {a} {b} none read there = delayed_by_read (sent_event sent) a b None read
refused_after_read sent fault none read there = absurd none

-- what is answered by the kept text, after a read of it
pub answered_by_kept : (sent : SentRequest) {found : Found} {a b : View} {answered : AnswerModel}
    → ShelfRead a b None → (b.is_intact → b.is_available)
    → (b.is_available → a.is_laid_out → found ≡ found_by a.records sent.subject sent.sid sent.slot sent.seq)
    → AnswersText found sent.seq sent.body.now answered → Answered (event_asked (sent_event sent)) a answered b
answered_by_kept sent {found} {a} {b} {answered} read there tells (kept, again, same, told) = record {
  frame = read.call.frame;
  quiet = λ other. read.call.quiet (none_not_store Store);
  alive = λ k event is other. there k;
  step = λ k start past stands.
      let (d, stand) = stands (read.call.frame.was_available (there k)) in
      let found_is = sym (tells (there k) d) ∙ again in
      let (event, asks, says, idle) = kept_text stand sent kept found_is answered same told in (
        event ∷ past,
        rw asks (inl (says, refl)),
        λ h. (
          read.call.frame.laid_out h d,
          rw (read.same h d) (stand_after_idle start a.records past event idle stand),
        ),
      );
  refused = λ h d away. read.same h d;
  idle = λ h d start past stand idle. read.same h d;
  few = λ h d start past stand other.
      let (event, asks, says, idle) = kept_text stand sent kept (sym (tells h d) ∙ again) answered same told in
      rw asks (idle_few start past event a.records b.records idle (read.same h d));
  crash = λ k start past stands left may. inl (read.crash left may);
  stays_laid_out = λ k start past stands. read.stays_laid_out k;
  alone = λ none. absurd (event_may_ask (sent_event sent) none);
}

-- a request that is answered by what a look-up found
pub tried_by_found : {q : Request} {found : Found} {a b c : View} {r : Result Answer ShelfFault}
    → ShelfRead a b None → (b.is_intact → b.is_available)
    → (b.is_available → a.is_laid_out → found ≡ found_for a.records q) → ShelfCall b c (fault_in r)
    → (c.is_available → b.is_laid_out → IfOk r (λ answer. IsTurnedAway (answer_model answer) → c.records ≡ b.records))
    → (b.is_available → b.is_laid_out → (start : Room) (past : History) → RepresentsHistory start b.records past
    → found ≡ found_for b.records q → JoinsHistory start past (Slot q) b c r)
    → EventTried (Slot q) a c r
tried_by_found read there found call refused joins =
    tried_after_read read there call refused (λ start past h d stand.
    joins h (read.call.frame.laid_out h d) start past stand (rw (read.same h d) (found h d)))
