-- The ends of serving: what was read, and what was written.
use Rattle.std.specs.Prelude.{◌≡◌, ℕ, ◌-◌, ◌^◌, ◌<◌, ◌≤◌, ◌⊎◌, List, [], ◌++◌, length, min, Option}
use Rattle.std.specs.Io.KnownBytes.{Appends, Consumes, IsAtEnd}
use Rattle.room_wire.specs.Answers.AnswerModel.{AnswerModel, bad_answer}
use Rattle.room_wire.specs.Messages.MessageModel.{MessageModel, NoMessage, NeverMessage}
use Rattle.room_wire.specs.Serving.Outputs.{Outputs}
use Rattle.room_wire.specs.Messages.Stream.{Follows, Ended}
use Rattle.room_records.specs.Writers.{AppendsFront}
use Rattle.room_wire.specs.declared.serving.stop.Why.{Why}
use Rattle.room_wire.specs.declared.serving.stop.Why.TheVariants.{Closed, BadMessage, ReadFailed, WriteFailed, Memory}
use Rattle.room_wire.specs.declared.serving.stop.ServeEnd.{ServeEnd}

-- what was written, by the end: of these messages and this output, where the stream so far is the bytes read
abbrev pub Wrote : (bytes rest : List ℕ) (ms : List MessageModel) (out : List ℕ)
    (after : Option (List ℕ)) (old new : Option (List ℕ)) → Why → Type 0
-- all answers; the last message is last, or nothing is left
Wrote bytes rest ms out after old new Closed =
    Appends old new out × (Ended bytes ms rest ⊎ (Follows bytes ms rest × (rest ≡ []) × IsAtEnd after))
-- all answers and the answer 40; no message can follow
Wrote bytes rest ms out after old new BadMessage =
    Appends old new (out ++ bad_answer) × Follows bytes ms rest × NoMessage rest
    × (0 < length rest) × (IsAtEnd after ⊎ NeverMessage rest)
-- all answers
Wrote bytes rest ms out after old new ReadFailed = Appends old new out × Follows bytes ms rest × NoMessage rest
-- a beginning of the answers so far or, where the answer 40 was due, of all of them and that
Wrote bytes rest ms out after old new WriteFailed =
    ((Follows bytes ms rest ⊎ Ended bytes ms rest) × AppendsFront old new out)
    ⊎ (Follows bytes ms rest × NoMessage rest × (0 < length rest)
    × (IsAtEnd after ⊎ NeverMessage rest) × AppendsFront old new (out ++ bad_answer))
-- nothing
Wrote bytes rest ms out after old new Memory = (bytes ≡ []) × (ms ≡ []) × Appends old new []

-- the bytes read, the messages at their front, their answers, and how many; and the service before and after
abbrev pub Serves : {S : Type 0} → (S → MessageModel → AnswerModel → S → Type 0)
    → (before later : S) → (left after old new : Option (List ℕ)) → Why → ℕ → Type 0
Serves may_answer before later left after old new why count =
    (bytes rest : List ℕ) × (ms : List MessageModel) × (out : List ℕ)
    × Consumes left after bytes × Outputs may_answer before ms out later
    × (count ≡ min (length ms) (2 ^ 64 - 1)) × Wrote bytes rest ms out after old new why

-- so many bytes or more were read
abbrev pub ConsumesMany : (left after : Option (List ℕ)) → ℕ → Type 0
ConsumesMany left after n = (bytes : List ℕ) × Consumes left after bytes × (n ≤ length bytes)

abbrev pub Refused : Option (List ℕ) → Option (List ℕ) → Why → Type 0
Refused old new BadMessage = Appends old new bad_answer
Refused old new WriteFailed = AppendsFront old new bad_answer
Refused old new Closed = ⊥
Refused old new ReadFailed = ⊥
Refused old new Memory = ⊥

abbrev pub Refuses : Option (List ℕ) → Option (List ℕ) → ℕ → ServeEnd → Type 0
Refuses old new count end = (end.count ≡ count) × Refused old new end.why

-- which messages of a split were answered: all, or its first ones where a write failed, or none
abbrev pub Answers : (answered split : List MessageModel) → Why → Type 0
Answers answered split Closed = answered ≡ split
Answers answered split BadMessage = answered ≡ split
Answers answered split ReadFailed = answered ≡ split
Answers answered split WriteFailed = (later : List MessageModel) × (split ≡ answered ++ later)
Answers answered split Memory = answered ≡ []
