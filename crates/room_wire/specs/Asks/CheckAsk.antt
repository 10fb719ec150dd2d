-- What a message asks where questions alone have a route.
use Rattle.std.specs.Prelude.{ℕ, ◌&&◌, List, Result, Err, ok_or, if◌then◌else◌, codes, bytes_eq}
use Rattle.room_wire.specs.declared.questions.question.Question.{Question}
use Rattle.room_wire.specs.declared.fault.WireFault.{WireFault}
use Rattle.room_wire.specs.declared.fault.WireFault.TheVariants.{BadRoute, BadRequest}
use Rattle.room_wire.specs.Questions.QuestionModel.{QuestionModel, question_model, question_of_body}
use Rattle.room_wire.specs.Asks.AskOf.{DecodesAs}
use Rattle.room_wire.specs.Messages.MessageModel.{MessageModel}

-- what a method, a target and a body ask where questions alone have a route: the route first, then the body
abbrev pub check_of : (method target body : List ℕ) → Result QuestionModel WireFault
check_of method target body =
    if bytes_eq method (codes "POST") && bytes_eq target (codes "/v1/check")
    then ok_or (question_of_body body) BadRequest else Err BadRoute

abbrev pub check_ask : MessageModel → Result QuestionModel WireFault
check_ask m = check_of m.head.method m.head.target m.body

abbrev pub Decodes : Result QuestionModel WireFault → Result Question WireFault → Type 0
Decodes = DecodesAs question_model
