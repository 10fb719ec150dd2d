-- The targets of a room, by the plain texts of its routes.
use Rattle.std.specs.Prelude.{◌≡◌, ◌<◌, ◌==◌, ◌&&◌, ℕ, Bool, false, not, nat_lt, List, [], ◌++◌, length, get_or, Option}
use Rattle.std.specs.Prelude.{None, Some}
use Rattle.std.specs.Prelude.{if◌then◌else◌, option_map, option_and_then, codes, bytes_eq}
use Rattle.std.specs.List.{list_any, slice_split}
use Rattle.room_wire.specs.declared.asks.routing.Route.{Route}
use Rattle.room_wire.specs.declared.asks.routing.Route.TheVariants as R
use Rattle.room_wire.specs.declared.asks.routing.Action.{Action}
use Rattle.room_wire.specs.Asks.Routing.{TargetModel, is_mark, is_ascii, action_of}

-- a part of a target: some bytes, and none of them a slash
abbrev pub is_part : List ℕ → Bool
is_part text = nat_lt 0 (length text) && not (list_any (λ b. b == 47) text)

-- the route whose text a target is, with these parts
abbrev pub route_of : (target sid slot seq : List ℕ) → Option Route
route_of target sid slot seq =
    if bytes_eq target (codes "/v1/check") then Some R.Check
    else (if is_part sid && bytes_eq target (codes "/v1/sessions/" ++ sid) then Some R.Session
    else (if is_part sid && (is_part slot && (is_part seq
    && bytes_eq target (codes "/v1/sessions/" ++ (sid ++ (codes "/slots/" ++ (slot ++ (codes "/" ++ seq)))))))
    then Some R.Slot else None))

-- what stands in a target behind so many slashes, up to the next one
abbrev pub part_at : ℕ → (target : List ℕ) → List ℕ
part_at n target = get_or (slice_split (λ b. b == 47) target) n []

-- what is asked, with the parts of a target, empty where there is none
abbrev pub parted : (target : List ℕ) → Action → TargetModel
parted target action =
    record { action = action; sid = part_at 3 target; slot = part_at 5 target; seq = part_at 6 target }

-- what a method and a target ask of a room, if the target is a route and the method one of it. All that a part may hold
-- is ASCII
abbrev pub room_target : (method target : List ℕ) → Option TargetModel
room_target method target =
    if list_any is_mark target then None
    else option_map (parted (if is_ascii target then target else []))
    (option_and_then (action_of method) (route_of target (part_at 3 target) (part_at 5 target) (part_at 6 target)))

-- the same of a part, and of a target with its route, as laws say it
abbrev pub IsPart : List ℕ → Type 0
IsPart text = (0 < length text) × (list_any (λ b. b == 47) text ≡ false)

-- the target is one of this route, with these parts; a part that the route has not is empty
abbrev pub IsTargetOf : Route → (target sid slot seq : List ℕ) → Type 0
IsTargetOf R.Check target sid slot seq = (target ≡ codes "/v1/check") × (sid ≡ []) × (slot ≡ []) × (seq ≡ [])
IsTargetOf R.Session target sid slot seq =
    (target ≡ codes "/v1/sessions/" ++ sid) × IsPart sid × (slot ≡ []) × (seq ≡ [])
IsTargetOf R.Slot target sid slot seq =
    (target ≡ codes "/v1/sessions/" ++ (sid ++ (codes "/slots/" ++ (slot ++ (codes "/" ++ seq)))))
    × IsPart sid × IsPart slot × IsPart seq
