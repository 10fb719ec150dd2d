-- What an answer says, as contracts see it.
pub use Rattle.room_wire.specs.Answers.AnswerModel.{AnswerModel, Reply, Refused, answer_model}

-- the answer is a refusal with a code of 20 or above, and no reply; a command's own refusal is a reply
abbrev pub IsTurnedAway : AnswerModel → Type 0
IsTurnedAway (Reply text) = ⊥
IsTurnedAway (Refused code) = Unit {0}
