-- What an event is answered by the rows. The history says the same: `proofs/Answers`.
use Rattle.std.specs.Prelude.{◌≡◌, ◌<◌, ℕ, List, [], ◌∷◌, ◌++◌, Bool, true, not, ◌==◌}
use Rattle.std.specs.Prelude.{◌&&◌, nat_lt, Option, None, Some, if◌then◌else◌}
use Rattle.std.specs.List.{AllByRecursion}
use Rattle.std.specs.Option.{option_map_or}
use Rattle.std.specs.Str.{bytes_eq}
use Rattle.room_acl.specs.SubjectModel.{SubjectModel}
use Rattle.room_slots.specs.KeptModel.{KeptModel}
use Rattle.room_slots.specs.declared.verdict.Verdict.{Verdict}
use Rattle.room_slots.specs.declared.verdict.Verdict.TheVariants.{New, Repeat, Uncached, FalseRetry, Misordered}
use Rattle.room_slots.specs.Slots.{is_next, kept_seq, verdict}
use Rattle.room_records.specs.declared.session.SessionRow.{SessionRow}
use Rattle.room_records.specs.declared.session.SlotRow.{SlotRow}
use Rattle.room_records.specs.declared.change.Change.{Change}
use Rattle.room_records.specs.declared.change.Change.TheVariants.{PutSlot}
use Rattle.room_records.specs.Records.{Records}
use Rattle.room_records.specs.Changes.{apply_change, apply_changes, apply_all_to_objects, IsOfObjects}
use Rattle.room_records.specs.Room.{Room}
use Rattle.room_records.specs.Representation.{RepresentsRoom}
use Rattle.room_commands.specs.Effect.{effect}
use Rattle.room_commands.specs.Lawful.{IsLawful}
use Rattle.room_commands.specs.ReplyModel.{Opened}
use Rattle.room_wire.specs.declared.answers.code.Code.TheVariants.{BadSession, BadSlot, SeqMisordered, SeqFalseRetry}
use Rattle.room_wire.specs.declared.answers.code.Code.TheVariants.{SessionTaken, RetryUncached}
use Rattle.room_tree.specs.Plans.{KeepsNumbers, most_rows}
use Rattle.room_tree.specs.Renewals.{ChangesFewRows}
use Rattle.room_wire.specs.Asks.EventModel.{EventModel, Request, Slot}
use Rattle.room_wire.specs.Forms.Texts.{reply_text}
use Rattle.room_desk.specs.declared.requests.Found.{Found}
use Rattle.room_desk.specs.declared.requests.Found.TheVariants as F
use Rattle.room_desk.specs.AnswerModel.{AnswerModel, Reply, Refused}
use Rattle.room_desk.specs.History.{History, is_accepted, kept_of_request, state_after}

-- an OPEN of a name that was opened before
abbrev pub answer_open_again : SubjectModel → ℕ → SessionRow → AnswerModel
answer_open_again caller slots row =
    if bytes_eq row.owner caller.name
    then (if row.is_open then (if slots == row.slots then Reply (reply_text (Opened slots)) else Refused SessionTaken)
    else Refused BadSession)
    else Refused SessionTaken

-- the session is open and the caller's
abbrev pub is_usable : SubjectModel → SessionRow → Bool
is_usable caller row = bytes_eq row.owner caller.name && row.is_open

-- a session row is there, and the slot is below its number of slots
pub record HasSlot (r : Records) (sid : List ℕ) (slot : ℕ) : Type 0 where
  pub row : SessionRow
  pub stands : r.session sid ≡ Some row
  pub below : slot < row.slots

abbrev pub ran_row : Room → Request → SlotRow
ran_row room q = record { sid = q.sid; slot = q.slot; kept = kept_of_request room q }

-- what an accepted request changes: objects, by these changes, and the row of its slot. A list is put where it changes
-- and once, few other rows change, and each object that stays keeps its number
pub record ChangesFew (r : Records) (room : Room) (q : Request) (new : Records) : Type 0 where
  pub changes : List Change
  pub of_tree : AllByRecursion IsOfObjects changes
  pub few : ChangesFewRows (most_rows q.command) r.objects changes
  pub numbers : KeepsNumbers r.objects (apply_all_to_objects changes r.objects) room q.caller q.command
  pub leaves : new ≡ apply_changes (changes ++ PutSlot (ran_row room q) ∷ []) r

-- an event changes so few rows, where it is an accepted request; an OPEN and a CLOSE change no row of an object
abbrev pub EventChangesFew : Room → History → EventModel → (old new : Records) → Type 0
EventChangesFew start past (Slot q) old new = is_accepted past q ≡ true → ChangesFew old (state_after start past) q new
EventChangesFew start past event old new = new.objects ≡ old.objects

-- a command was run: its reply, and the records after its changes and its slot row
pub record Ran (r : Records) (room : Room) (q : Request) (answered : AnswerModel) (new : Records) : Type 0 where
  pub changed : Records
  pub session : changed.session ≡ r.session
  pub kept : changed.slot ≡ r.slot
  pub objects : RepresentsRoom changed.objects (effect room q.caller q.command).room
  pub leaves : new ≡ apply_change (PutSlot (ran_row room q)) changed
  pub says : answered ≡ Reply (reply_text (effect room q.caller q.command).reply)
  pub lawful : IsLawful q.command
  pub made : ChangesFew r room q new

-- the records after a command was run
abbrev pub RanTo : Records → Room → Request → Records → Type 0
RanTo r room q new = Ran r room q (Reply (reply_text (effect room q.caller q.command).reply)) new

-- what a request is answered that is not new to its slot, by what it is to the slot. Two cases never come: a repeat
-- where nothing is kept, and a request that is new
abbrev pub answer_by_verdict : Verdict → Option KeptModel → AnswerModel
answer_by_verdict Repeat (Some kept) = option_map_or Reply kept.reply (Refused RetryUncached)
answer_by_verdict Repeat None = Refused SeqMisordered
answer_by_verdict Uncached kept = Refused RetryUncached
answer_by_verdict FalseRetry kept = Refused SeqFalseRetry
answer_by_verdict Misordered kept = Refused SeqMisordered
answer_by_verdict New kept = Refused SeqMisordered

-- what a request is answered that is not new to its slot, by its number, its command text and what the slot keeps
abbrev pub answer_kept : Option KeptModel → ℕ → List ℕ → AnswerModel
answer_kept kept seq text = answer_by_verdict (verdict kept seq text) kept

-- what the rows of its session and of its slot say of a request, before its command is known
abbrev pub found_in : Option SessionRow → Option KeptModel → SubjectModel → ℕ → ℕ → Found
found_in None kept caller slot seq = F.Refused BadSession
found_in (Some row) kept caller slot seq =
    if not (is_usable caller row) then F.Refused BadSession
    else (if not (nat_lt slot row.slots) then F.Refused BadSlot
    else (if is_next (kept_seq kept) seq then F.New else F.Again kept))

abbrev pub found_by : Records → SubjectModel → List ℕ → ℕ → ℕ → Found
found_by r caller sid slot seq = found_in (r.session sid) (r.slot sid slot) caller slot seq

abbrev pub found_for : Records → Request → Found
found_for r q = found_by r q.caller q.sid q.slot q.seq

-- a request was found to be no new one, its body is the text that its slot keeps, and that text tells the answer
abbrev pub AnswersText : Found → ℕ → List ℕ → AnswerModel → Type 0
AnswersText found seq body answered = (kept : KeptModel) × (found ≡ F.Again (Some kept)) × (body ≡ kept.request)
    × (answered ≡ answer_kept (Some kept) seq body)
