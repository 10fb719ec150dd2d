-- What messages are answered: codes, statuses, and the bytes of an answer.
pub mod AnswerModel
pub mod Codes
