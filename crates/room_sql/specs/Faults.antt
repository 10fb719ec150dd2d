-- What an error of the connection is to the shelf.
use Rattle.std.specs.Prelude.{◌≡◌, ◌≢◌, ◌⊎◌, ◌+◌, ◌-◌, ◌^◌, ℕ, pos, min, [], ◌∷◌, codes, Result, IfErr}
use Rattle.sqlite_value.specs.declared.value.Value.TheVariants.{Int}
use Rattle.sqlite.specs.State.{State, FailsToQuery}
use Rattle.sqlite.specs.declared.error.Error.{Error}
use Rattle.sqlite.specs.declared.error.Error.TheVariants.{SqliteFailure}
use Rattle.sqlite.specs.declared.error.ErrorCode.TheVariants.{OutOfMemory}
use Rattle.room_records.specs.declared.shelf.ShelfFault.{ShelfFault}
use Rattle.room_records.specs.declared.shelf.ShelfFault.TheVariants.{Memory, Store}

-- What is told, and how many failures are counted before and after it: a want of memory is told, and any other error is
-- counted as a failure of the store. The count stays at 2^64 - 1
abbrev pub IsFaultOf : Error → ShelfFault → ℕ → ℕ → Type 0
IsFaultOf error told old new =
    ((error ≡ SqliteFailure OutOfMemory) × (told ≡ Memory) × (new ≡ old))
    ⊎ ((error ≢ SqliteFailure OutOfMemory) × (told ≡ Store) × (new ≡ min (old + 1) (2 ^ 64 - 1)))

-- an error that is no want of memory means this
abbrev pub ErrMeans : {T : Type 0} → Result T Error → (Error → Type 0) → Type 0
ErrMeans result Means = IfErr result (λ e. e ≢ SqliteFailure OutOfMemory → Means e)

-- the query of an object's entries, in order of place, failed
abbrev pub FailsToReadEntries : ℕ → State → State → Error → Type 0
FailsToReadEntries id = FailsToQuery
    (codes "SELECT place, type, flag, mask, who FROM entry WHERE node = ?1 ORDER BY place") (Int (pos id) ∷ [])
