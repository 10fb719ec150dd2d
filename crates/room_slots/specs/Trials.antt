-- A trial slot: a document to which pieces are appended, each once.
use Rattle.std.specs.Prelude.{ℕ, List, ◌++◌, Option, None, Some, unwrap_or}
use Rattle.room_slots.specs.KeptModel.{KeptModel}
use Rattle.room_slots.specs.Slots.{verdict}
use Rattle.room_slots.specs.TrialModel.{TrialModel, TrialAnswerModel, Reply, FalseRetry, Misordered}
use Rattle.room_slots.specs.declared.verdict.Verdict.{Verdict}
use Rattle.room_slots.specs.declared.verdict.Verdict.TheVariants as V
use Rattle.room_slots.specs.declared.trial.TrialAnswer.{TrialAnswer}
use Rattle.room_slots.specs.declared.trial.TrialAnswer.TheVariants as T

-- an answer as contracts see it
abbrev pub answer_model : TrialAnswer → TrialAnswerModel
answer_model (T.Reply bytes) = Reply bytes.items
answer_model T.FalseRetry = FalseRetry
answer_model T.Misordered = Misordered

-- the slot after a new piece: its reply, the whole document, is kept
abbrev pub appended : TrialModel → ℕ → List ℕ → TrialModel
appended trial seq bytes = let doc = trial.doc ++ bytes in record {
  kept = Some (record { seq = seq; request = bytes; reply = Some doc });
  doc = doc;
}

-- the slot after a piece that is this to it: only a new one changes anything
abbrev pub after_verdict : Verdict → TrialModel → ℕ → List ℕ → TrialModel
after_verdict V.New trial seq bytes = appended trial seq bytes
after_verdict V.Repeat trial seq bytes = trial
after_verdict V.Uncached trial seq bytes = trial
after_verdict V.FalseRetry trial seq bytes = trial
after_verdict V.Misordered trial seq bytes = trial

-- the slot after a piece
abbrev pub trial_after : TrialModel → ℕ → List ℕ → TrialModel
trial_after trial seq bytes = after_verdict (verdict trial.kept seq bytes) trial seq bytes

-- the reply that is kept; without one it is the document
abbrev pub kept_reply : Option KeptModel → List ℕ → List ℕ
kept_reply None doc = doc
kept_reply (Some last) doc = unwrap_or last.reply doc

-- the answer to the last piece when it is sent again
abbrev pub answer_again : TrialModel → TrialAnswerModel
answer_again trial = Reply (kept_reply trial.kept trial.doc)

-- the answer to a piece that is this to the slot
abbrev pub answer_by_verdict : Verdict → TrialModel → List ℕ → TrialAnswerModel
answer_by_verdict V.New trial bytes = Reply (trial.doc ++ bytes)
answer_by_verdict V.Repeat trial bytes = answer_again trial
answer_by_verdict V.Uncached trial bytes = answer_again trial
answer_by_verdict V.FalseRetry trial bytes = FalseRetry
answer_by_verdict V.Misordered trial bytes = Misordered

-- the answer to a piece
abbrev pub trial_answer : TrialModel → ℕ → List ℕ → TrialAnswerModel
trial_answer trial seq bytes = answer_by_verdict (verdict trial.kept seq bytes) trial bytes
