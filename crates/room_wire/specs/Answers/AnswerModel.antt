-- What a message is answered, and the bytes of the answer.
use Rattle.std.specs.Prelude.{ℕ, Bool, true, false, List, [], ◌++◌, length, unwrap_or, codes, decimal}
use Rattle.http.specs.StatusCode.{code_digits, reason_phrase}
use Rattle.room_wire.specs.Answers.Codes.{refusal_parts}
use Rattle.room_wire.specs.declared.answers.code.Code.{Code}
use Rattle.room_wire.specs.declared.answers.code.Code.TheVariants.{BadHttp}
use Rattle.room_wire.specs.declared.answers.answer.Answer.{Answer}
use Rattle.room_wire.specs.declared.answers.answer.Answer.TheVariants as A

pub data AnswerModel : Type 0 where
  Reply : List ℕ → AnswerModel
  Refused : Code → AnswerModel

abbrev pub answer_model : Answer → AnswerModel
answer_model (A.Reply text) = Reply text.items
answer_model (A.Refused code) = Refused code

-- the status of an answer, and its body
abbrev pub answer_parts : AnswerModel → ℕ × List ℕ
answer_parts (Reply text) = (200, text)
answer_parts (Refused code) = refusal_parts code

abbrev pub phrase : ℕ → List ℕ
phrase status = unwrap_or (reason_phrase status) []

-- the end of a head, with the field that says that no answer follows
abbrev pub end_text : Bool → List ℕ
end_text true = codes "\r\nconnection: close\r\n\r\n"
end_text false = codes "\r\n\r\n"

abbrev pub head_text : (status size : ℕ) → (last : Bool) → List ℕ
head_text status size last =
    codes "HTTP/1.1 " ++ (code_digits status ++ (codes " " ++ (phrase status
    ++ (codes "\r\ncontent-type: application/json\r\ncontent-length: " ++ (decimal size ++ end_text last)))))

-- the bytes of an answer to a message, which may be the last
abbrev pub answer_bytes : AnswerModel → (last : Bool) → List ℕ
answer_bytes answer last =
    head_text (answer_parts answer).0 (length (answer_parts answer).1) last ++ (answer_parts answer).1

-- the answer where no message can come
abbrev pub bad_answer : List ℕ
bad_answer = answer_bytes (Refused BadHttp) true
