-- How jobs end.
use Rattle.std.specs.Prelude.{◌≡◌, ◌⊎◌, ℕ, List, ◌++◌, codes, true, false, Option, Some, Result, Ok, Err}
use Rattle.room_acl.specs.Principals.{IsPrincipal}
use Rattle.room_program.specs.declared.fault.Fault.{Fault}
use Rattle.room_program.specs.declared.fault.Fault.TheVariants.{BadName, Memory, SelftestFailed}
use Rattle.room_program.specs.Machines.{Call}
use Rattle.room_program.specs.Machines.Call.{asks, hears}
use Rattle.room_program.specs.Files.{FailsBy, MakesAt}
use Rattle.room_program.specs.Calls.{Exchange, AcceptsEach, AcceptsFewer}

-- a name is no principal, or memory is wanting
abbrev pub IsNameFault : (are_principals : Type 0) → Fault → Type 0
IsNameFault are_principals BadName = ¬ are_principals
IsNameFault are_principals Memory = Unit {0}
IsNameFault are_principals other = ⊥

-- that of an owner and a group, before anything is done
abbrev pub FailsNames : {M : Type 0} → (owner group : List ℕ) → (old new : M) → Result (Unit {0}) Fault → Type 0
FailsNames owner group old new done =
    FailsBy (λ fault. IsNameFault (IsPrincipal owner × IsPrincipal group) fault × (new ≡ old)) done

-- `init`: `bad name` comes only where a name is no principal, and then no store is opened; else a room is made in the
-- store at the path, and the store is closed with this room in it, or it is let go
abbrev pub InitEnds : {M C : Type 0} → (does : M → Call C → M → Type 0) → (made : C → C → Type 0)
    → (unmade : C → C → Fault → Type 0) → (db owner group : List ℕ) → (old new : M)
    → Result (Unit {0}) Fault → Type 0
InitEnds does made unmade db owner group old new done =
    FailsNames owner group old new done
    ⊎ ((IsPrincipal owner × IsPrincipal group) × MakesAt does made unmade db old new done)

abbrev pub IsSelftestFault : Fault → Type 0
IsSelftestFault Memory = Unit {0}
IsSelftestFault SelftestFailed = Unit {0}
IsSelftestFault other = ⊥

-- two connections are accepted; or fewer, and it is a fault
abbrev pub AcceptsTwo : {M : Type 0} → (accepts : M → Exchange → M → Type 0) → (fails : M → M → Type 0) → (old new : M)
    → Result (Unit {0}) Fault → Type 0
AcceptsTwo accepts fails old new (Ok done) = AcceptsEach accepts 2 old new
AcceptsTwo accepts fails old new (Err fault) = (fault ≡ SelftestFailed) × AcceptsFewer accepts fails 2 old new

-- a MKDIR of ann, in her slot 0
abbrev pub mkdir_sent : List ℕ
mkdir_sent = codes "POST /v1/sessions/0123456789abcdef0123456789abcdef/slots/0/1 HTTP/1.1\r\n"
    ++ codes "room-user: ann\r\ncontent-length: 31\r\n\r\n{\"cmd\":\"MKDIR\",\"path\":\"/plans\"}"

-- what `selftest` sends over its first connection: OPEN and MKDIR
abbrev pub first_sent : List ℕ
first_sent = codes "POST /v1/sessions/0123456789abcdef0123456789abcdef HTTP/1.1\r\n"
    ++ (codes "room-user: ann\r\ncontent-length: 11\r\n\r\n{\"slots\":3}" ++ mkdir_sent)

-- and over its second one: the same MKDIR again, and LIST of the root, the last message
abbrev pub second_sent : List ℕ
second_sent = mkdir_sent ++ (codes "POST /v1/sessions/0123456789abcdef0123456789abcdef/slots/1/1 HTTP/1.1\r\n"
    ++ codes "room-user: ann\r\nconnection: close\r\ncontent-length: 25\r\n\r\n{\"cmd\":\"LIST\",\"path\":\"/\"}")

abbrev pub due_answers : List ℕ
due_answers = codes "HTTP/1.1 200 OK\r\ncontent-type: application/json\r\ncontent-length: 10\r\n\r\n{\"code\":0}"
    ++ (codes "HTTP/1.1 200 OK\r\ncontent-type: application/json\r\ncontent-length: 39\r\nconnection: close"
    ++ codes "\r\n\r\n{\"code\":0,\"names\":[[\"plans\",\"folder\"]]}")

-- the connection made last is answered just what is due; or something else, or it could not be read, and it is a fault
abbrev pub IsAnswered : {M C : Type 0} → (does : M → Call C → M → Type 0) → (old new : M)
    → Result (Unit {0}) Fault → Type 0
IsAnswered does old new (Ok done) = does old (hears (Some due_answers)) new
IsAnswered does old new (Err fault) = (fault ≡ SelftestFailed)
    × (answers : Option (List ℕ)) × (¬ (answers ≡ Some due_answers)) × does old (hears answers) new

-- what `selftest` does with its two connections, and how far it came where that is a fault: either could not be made,
-- or fewer than two were accepted, or the later one is not answered so
abbrev pub Talks : {M C : Type 0} → (does : M → Call C → M → Type 0) → (accepts : M → Exchange → M → Type 0)
    → (fails : M → M → Type 0) → (old new : M) → Result (Unit {0}) Fault → Type 0
Talks {M} does accepts fails old new done =
    ((done ≡ Err SelftestFailed) × does old (asks first_sent false) new)
    ⊎ ((first : M) × does old (asks first_sent true) first
    × (((done ≡ Err SelftestFailed) × does first (asks second_sent false) new)
    ⊎ ((second : M) × does first (asks second_sent true) second
    × (((done ≡ Err SelftestFailed) × AcceptsFewer accepts fails 2 second new)
    ⊎ ((served : M) × AcceptsEach accepts 2 second served × IsAnswered does served new done)))))

-- `selftest`: it is done only after two connections to itself were made and sent their messages, two were accepted, and
-- the later one was answered what is due; and memory may be wanting before anything is asked
abbrev pub SelftestEnds : {M C : Type 0} → (does : M → Call C → M → Type 0) → (accepts : M → Exchange → M → Type 0)
    → (fails : M → M → Type 0) → (old new : M) → Result (Unit {0}) Fault → Type 0
SelftestEnds does accepts fails old new done =
    FailsBy (λ fault. IsSelftestFault fault × (new ≡ old)) done ⊎ Talks does accepts fails old new done
