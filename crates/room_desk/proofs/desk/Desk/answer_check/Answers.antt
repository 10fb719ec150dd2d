use Rattle.room_wire.specs.Questions.QuestionModel.{question_model}
use Rattle.room_desk.proofs.Common.{answer_model}
use Rattle.room_desk.proofs.Messages.{question_stays}
use Rattle.room_desk.proofs.desk.Desk.answer_check.Goals as goal

pub returns : goal.returns
returns g c =
    question_stays (question_model c.args.question.now) (g.S.Shelf.view c.args.self.now)
    (answer_model c.answer_question.result) c.answer_question.ensures
