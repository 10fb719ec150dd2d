-- The two questions of `/v1/check`, their bodies and the texts of their answers.
pub mod CheckAnswers
pub mod QuestionModel
