-- What a slot keeps, and what a request to it is.
use Rattle.std.specs.Prelude.{ℕ, ◌+◌, ◌%◌, ◌^◌, ◌==◌, List, Bool, Option, None, Some, if◌then◌else◌}
use Rattle.std.specs.Option.{option_map}
use Rattle.std.specs.Str.{bytes_eq}
use Rattle.room_slots.specs.KeptModel.{KeptModel}
use Rattle.room_slots.specs.declared.verdict.Verdict.{Verdict}
use Rattle.room_slots.specs.declared.verdict.Verdict.TheVariants.{New, Repeat, Uncached, FalseRetry, Misordered}

-- the number after this one
abbrev pub next_number : ℕ → ℕ
next_number seq = (seq + 1) % 2 ^ 32

-- the number of what a slot keeps
abbrev pub kept_seq : Option KeptModel → Option ℕ
kept_seq kept = option_map (λ k. k.seq) kept

-- the number is the next one after that of the last request, or the first
abbrev pub is_next : Option ℕ → ℕ → Bool
is_next None seq = seq == 1
is_next (Some last) seq = seq == next_number last

-- what the last request is when it is sent again, by what is kept of its reply
abbrev pub sent_again : Option (List ℕ) → Verdict
sent_again None = Uncached
sent_again (Some reply) = Repeat

-- what a request with this number is to a slot
abbrev pub verdict : Option KeptModel → ℕ → List ℕ → Verdict
verdict None seq request = if is_next None seq then New else Misordered
verdict (Some last) seq request =
    if seq == last.seq then (if bytes_eq request last.request then sent_again last.reply else FalseRetry)
    else (if is_next (Some last.seq) seq then New else Misordered)
