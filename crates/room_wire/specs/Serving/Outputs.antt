-- Answers to the messages of a stream, by a service that may change with each.
use Rattle.std.specs.Prelude.{◌≡◌, ℕ, ◌<◌, ◌⊎◌, Bool, List, [], ◌∷◌, ◌++◌, length, Option}
use Rattle.std.specs.Io.KnownBytes.{Appends}
use Rattle.room_wire.specs.Answers.AnswerModel.{AnswerModel, answer_bytes}
use Rattle.room_wire.specs.Messages.Limits.{max_message}
use Rattle.room_wire.specs.Messages.MessageModel.{MessageModel, NoMessage, NeverMessage}
use Rattle.room_wire.specs.Messages.Stream.{Follows, Ended, is_last}
use Rattle.room_wire.specs.Messages.Taken.{Shows}
use Rattle.room_records.specs.Writers.{Sent, AppendsFront}
use Rattle.room_wire.specs.declared.messages.message.Message.{Message}
use Rattle.room_wire.specs.declared.serving.stop.RoundsEnd.{RoundsEnd}
use Rattle.room_wire.specs.declared.serving.stop.RoundsEnd.TheVariants.{NeedsMore, Broken, Last, NotWritten}

-- things that are asked in turn, with one answer for each: each is answered from what the one before it left
abbrev pub InTurn : {S Asked : Type 0} → (S → Asked → AnswerModel → S → Type 0)
    → S → List Asked → List AnswerModel → S → Type 0
InTurn answers before [] [] after = after ≡ before
InTurn {S} answers before (asked ∷ rest) (answered ∷ later) after =
    (next : S) × answers before asked answered next × InTurn answers next rest later after
InTurn answers before rest later after = ⊥

-- the output is that of these answers, one for each message
abbrev pub Writes : List MessageModel → List AnswerModel → (out : List ℕ) → Type 0
Writes [] [] out = out ≡ []
Writes (m ∷ ms) (answered ∷ answers) out =
    (later : List ℕ) × (out ≡ answer_bytes answered (is_last m) ++ later) × Writes ms answers later
Writes ms answers out = ⊥

-- these messages are answered in turn, and the output is that of the answers
abbrev pub Outputs : {S : Type 0} → (S → MessageModel → AnswerModel → S → Type 0)
    → S → List MessageModel → List ℕ → S → Type 0
Outputs may_answer before ms out after =
    (answers : List AnswerModel) × InTurn may_answer before ms answers after × Writes ms answers out

-- an answer to the message was sent, or a beginning of it
abbrev pub AnswersOne : {S : Type 0} → (S → MessageModel → AnswerModel → S → Type 0)
    → S → S → Message → Bool → (old new : Option (List ℕ)) → Bool → Type 0
AnswersOne may_answer before after message last old new ok =
    (answer : AnswerModel) × ((m : MessageModel) → Shows message m → may_answer before m answer after)
    × Sent old new (answer_bytes answer last) ok

-- what the rounds over the bytes at hand did: the messages, the rest, and what was written
abbrev pub Rounds : List ℕ → List ℕ → (old new : Option (List ℕ)) → List MessageModel → List ℕ → RoundsEnd → Type 0
Rounds bytes rest old new ms out NeedsMore =
    Follows bytes ms rest × Appends old new out × NoMessage rest × (length rest < max_message)
Rounds bytes rest old new ms out Broken =
    Follows bytes ms rest × Appends old new out × NeverMessage rest × (0 < length rest)
Rounds bytes rest old new ms out Last = Ended bytes ms rest × Appends old new out
Rounds bytes rest old new ms out NotWritten = (Follows bytes ms rest ⊎ Ended bytes ms rest) × AppendsFront old new out
