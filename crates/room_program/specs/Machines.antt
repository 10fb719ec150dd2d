-- What a run asks of the machine that it runs on, beside its three streams.
use Rattle.std.specs.Prelude.{ℕ, List, Bool, true, false, Option, Some, None, Result, Ok, Err}
use Rattle.sqlite.specs.declared.error.Error.{Error}

-- a call, with what it was answered; `C` are connections to stores
pub data Call (C : Type 0) : Type 0 where
  -- the text of the file at a path, where it can be read
  reads : (path : List ℕ) → (text : Option (List ℕ)) → Call C
  -- whether a file with bytes is at a path, where that can be told
  looks : (path : List ℕ) → (begun : Option Bool) → Call C
  -- the store at a path, or why it can't be opened
  opens : (path : List ℕ) → (opened : Result C Error) → Call C
  -- a store is closed: as it is when it is handed in
  closes : (closed : C) → Call C
  -- a store is let go without a close
  leaves : (left : C) → Call C
  -- whether connections to a port of 127.0.0.1 are listened for
  listens : (port : ℕ) → (done : Bool) → Call C
  -- whether one of them came, which is served next
  waits : (came : Bool) → Call C
  -- a line is shown to whoever runs the program
  warns : (line : List ℕ) → Call C
  -- whether they are listened for, on a free port where they were not yet, and one more was made and sent these bytes
  asks : (sent : List ℕ) → (done : Bool) → Call C
  -- all that the connection made last was answered, where it can be read
  hears : (answers : Option (List ℕ)) → Call C

-- a store is closed, so that its log is copied, or let go
abbrev pub given_up : {C : Type 0} → (copies : Bool) → C → Call C
given_up true c = closes c
given_up false c = leaves c

-- what a call was answered, where it did not fail
abbrev pub answer : {A E : Type 0} → Result A E → Option A
answer (Ok a) = Some a
answer (Err e) = None

-- whether it did not fail
abbrev pub is_done : {A E : Type 0} → Result A E → Bool
is_done (Ok a) = true
is_done (Err e) = false

-- the text that a read was answered, as bytes
abbrev pub text_answer : {T E : Type 0} → (bytes : T → List ℕ) → Result T E → Option (List ℕ)
text_answer bytes (Ok text) = Some (bytes text)
text_answer bytes (Err e) = None
