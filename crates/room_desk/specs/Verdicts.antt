-- What a slot test answers, by what the slot keeps (RFC 8881, section 2.10.6.1).
use Rattle.std.specs.Prelude.{List, ℕ, Option}
use Rattle.room_slots.specs.KeptModel.{KeptModel}
use Rattle.room_slots.specs.declared.verdict.Verdict.{Verdict}
use Rattle.room_slots.specs.declared.verdict.Verdict.TheVariants.{New}
use Rattle.room_desk.specs.AnswerModel.{AnswerModel, Reply}
use Rattle.room_desk.specs.RowAnswers.{answer_by_verdict}

-- a new request is run, and any other is answered by what is kept
abbrev pub answer_by : Verdict → List ℕ → Option KeptModel → AnswerModel
answer_by New fresh kept = Reply fresh
answer_by found fresh kept = answer_by_verdict found kept
