-- What questions are answered.
use Rattle.std.specs.Prelude.{◌≡◌, ◌⊎◌, Result, Ok, Err}
use Rattle.room_wire.specs.declared.answers.code.Code.{Code}
use Rattle.room_wire.specs.declared.answers.code.Code.TheVariants as C
use Rattle.room_wire.specs.declared.fault.WireFault.{WireFault}
use Rattle.room_wire.specs.declared.fault.WireFault.TheVariants.{BadRoute, UnknownUser, BadRequest, Memory}
use Rattle.room_wire.specs.Messages.MessageModel.{MessageModel}
use Rattle.room_wire.specs.Answers.AnswerModel.{AnswerModel, Reply, Refused}
use Rattle.room_wire.specs.Asks.CheckAsk.{check_ask}
use Rattle.room_wire.specs.Questions.CheckAnswers.{answer_text}
use Rattle.room_wire.specs.Questions.QuestionModel.{QuestionModel}

-- want of memory is answered DELAY
abbrev pub fault_code : WireFault → Code
fault_code BadRoute = C.BadRoute
fault_code UnknownUser = C.UnknownUser
fault_code BadRequest = C.BadRequest
fault_code Memory = C.Delay

abbrev pub answer_to_ask : Result QuestionModel WireFault → AnswerModel
answer_to_ask (Ok question) = Reply (answer_text question)
answer_to_ask (Err fault) = Refused (fault_code fault)

abbrev pub IsCheckAnswer : Result QuestionModel WireFault → AnswerModel → Type 0
IsCheckAnswer ask answer = (answer ≡ answer_to_ask ask) ⊎ (answer ≡ Refused C.Delay)

-- what a message may be answered where questions alone have a route; nothing is kept from one to the next
abbrev pub MayAnswerCheck : Unit {0} → MessageModel → AnswerModel → Unit {0} → Type 0
MayAnswerCheck before m answer after = IsCheckAnswer (check_ask m) answer
