-- Requests that are sent again with the text that their slot keeps: it is the text of a lawful command.
use Rattle.room_desk.proofs.Common.{◌≡◌, ◌∙◌, ap, sym, ℕ, List, [], ◌∷◌, Option, Some, arith, subst, true, false, refl}
use Rattle.room_desk.proofs.Common.{common_steps, same_Some, KeptModel, Records, Room, CommandModel, IsLawful}
use Rattle.room_desk.proofs.Common.{sent_event, EventModel, Request, Slot, command_text, AnswerModel, History, Accepted}
use Rattle.room_desk.proofs.Common.{accepted, answer_to, changes_rows, RepresentsHistory, kept_after, slot_row_of}
use Rattle.room_desk.proofs.Common.{answer_kept, found_by}
use Rattle.room_wire.specs.declared.asks.routed.SentRequest.{SentRequest}
use Rattle.room_wire.specs.Forms.Commands.{command_of_body}
use Rattle.room_wire.proofs.Lemmas.Forms.CommandBack.{text_back}
use Rattle.room_desk.specs.declared.requests.Found.TheVariants as F
use Rattle.room_desk.proofs.Found.{Says, said}
use Rattle.room_desk.proofs.Shorthands.{HaveLawfulCommands}

-- the bytes are the text of a lawful command
abbrev IsText : List ℕ → Type 0
IsText text = (command : CommandModel) × IsLawful command × (command_text command ≡ text)

text_after : (start : Room) (requests : List Accepted) (kept : KeptModel)
    → HaveLawfulCommands requests → kept_after start requests ≡ Some kept → IsText kept.request
text_after start [] kept lawful is = absurd cc
text_after start (last ∷ earlier) kept lawful is =
    (last.request.command, lawful.0, ap (λ (k : KeptModel). k.request) (same_Some _ kept is))

-- what a slot keeps is what its accepted requests left
kept_of_row : (start : Room) (past : History) (sid : List ℕ) (slot : ℕ) (kept : KeptModel)
    → slot_row_of start past sid slot ≡ Some kept → kept_after start (accepted past sid slot) ≡ Some kept
kept_of_row start past sid slot kept is = grind (arith, common_steps)

-- what was found is what the slot keeps
slot_keeps : (r : Records) (sent : SentRequest) (kept : Option KeptModel)
    → found_by r sent.subject sent.sid sent.slot sent.seq ≡ F.Again kept → r.slot sent.sid sent.slot ≡ kept
slot_keeps r sent kept found = grind (arith, common_steps)

module _ {start : Room} {r : Records} {past : History} (stand : RepresentsHistory start r past)
    (sent : SentRequest) (kept : KeptModel)
    (found : found_by r sent.subject sent.sid sent.slot sent.seq ≡ F.Again (Some kept)) where
  -- so a body that is the kept text asks its command, and is answered as the history says
  pub kept_text : (answered : AnswerModel) → sent.body.now ≡ kept.request
      → answered ≡ answer_kept (Some kept) sent.seq sent.body.now
      → (event : EventModel) × (sent_event sent ≡ Some event) × (answered ≡ answer_to start past event)
      × (changes_rows past event ≡ false)
  kept_text answered same told =
      let (command, lawful, text) = text_after start (accepted past sent.sid sent.slot) kept
      (stand.lawful sent.sid sent.slot) (kept_of_row start past sent.sid sent.slot kept
      (sym (stand.slots sent.sid sent.slot) ∙ slot_keeps r sent (Some kept) found)) in
      let asks : sent.body.now ≡ command_text command = same ∙ sym text in
      let q : Request = record {
        caller = sent.subject;
        sid = sent.sid;
        slot = sent.slot;
        seq = sent.seq;
        command = command;
        keep = true;
      } in
      let says = subst (Says start r past q) found (said stand q) in (
        Slot q,
        rw (ap command_of_body asks ∙ text_back command lawful) refl,
        told ∙ ap (answer_kept (Some kept) sent.seq) asks ∙ sym says.1,
        says.0,
      )
