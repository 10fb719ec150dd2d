-- The routes, and what stands in a target.
use Rattle.std.specs.Prelude.{ℕ, Bool, false, ◌||◌, ◌==◌, List, [], ◌∷◌, ◌++◌, Option, None, Some, is_some}
use Rattle.std.specs.Prelude.{if◌then◌else◌, option_map, nat_lt, codes, bytes_eq}
use Rattle.std.specs.List.{list_any, list_all}
use Rattle.matchit.specs.Params.{walk}
use Rattle.matchit.specs.Router.{RouteOf}
use Rattle.matchit.specs.Rows.{RowsOf, param_token}
use Rattle.matchit.specs.Seek.{first}
use Rattle.room_wire.specs.declared.asks.routing.Route.{Route}
use Rattle.room_wire.specs.declared.asks.routing.Route.TheVariants as R
use Rattle.room_wire.specs.declared.asks.routing.SessionAction.TheVariants.{Open, Close, Run}
use Rattle.room_wire.specs.declared.asks.routing.Action.{Action}
use Rattle.room_wire.specs.declared.asks.routing.Action.TheVariants.{Check, Session}
use Rattle.room_wire.specs.declared.asks.routing.Target.{Target}

abbrev pub check_row : List ℕ × RouteOf Route
check_row =
    (codes "/v1/check", record { pattern = codes "/v1/check"; text = codes "/v1/check"; names = []; value = R.Check })

abbrev pub session_tokens : List ℕ
session_tokens = codes "/v1/sessions/" ++ param_token ∷ []

abbrev pub session_row : List ℕ × RouteOf Route
session_row = (
  session_tokens,
  record { pattern = session_tokens; text = codes "/v1/sessions/{sid}"; names = (14, 17) ∷ []; value = R.Session },
)

abbrev pub slot_tokens : List ℕ
slot_tokens = session_tokens ++ (codes "/slots/" ++ (param_token ∷ (codes "/" ++ param_token ∷ [])))

-- the route of a request in a slot, with the session's name, the slot and the number
abbrev pub slot_row : List ℕ × RouteOf Route
slot_row = (
  slot_tokens,
  record {
    pattern = slot_tokens;
    text = codes "/v1/sessions/{sid}/slots/{slot}/{seq}";
    names = (14, 17) ∷ (26, 30) ∷ (33, 36) ∷ [];
    value = R.Slot;
  },
)

-- the router that has the route of questions alone
abbrev pub check_rows : RowsOf (RouteOf Route)
check_rows = check_row ∷ []

abbrev pub room_rows : RowsOf (RouteOf Route)
room_rows = check_row ∷ slot_row ∷ session_row ∷ []

-- one of ? # %
abbrev pub is_mark : ℕ → Bool
is_mark b = (b == 63) || (b == 35) || (b == 37)

-- what a method asks of a route
abbrev pub action_of : List ℕ → Route → Option Action
action_of method R.Check = if bytes_eq method (codes "POST") then Some Check else None
action_of method R.Session =
    if bytes_eq method (codes "POST") then Some (Session Open)
    else (if bytes_eq method (codes "DELETE") then Some (Session Close) else None)
action_of method R.Slot = if bytes_eq method (codes "POST") then Some (Session Run) else None

-- what a method and a target ask, with the texts of a session's name, a slot and a number, empty where there is none
pub record TargetModel : Type 0 where
  pub action : Action
  pub sid : List ℕ
  pub slot : List ℕ
  pub seq : List ℕ

abbrev pub target_model : Target → TargetModel
target_model t = record { action = t.action; sid = t.sid.now; slot = t.slot.now; seq = t.seq.now }

-- what the first of these parameters took
abbrev pub first_part : List (List ℕ × List ℕ) → List ℕ
first_part [] = []
first_part (pair ∷ pairs) = pair.1

abbrev pub later_parts : List (List ℕ × List ℕ) → List (List ℕ × List ℕ)
later_parts [] = []
later_parts (pair ∷ pairs) = pairs

abbrev pub target_of : Action → List (List ℕ × List ℕ) → TargetModel
target_of action pairs =
    record {
      action = action;
      sid = first_part pairs;
      slot = first_part (later_parts pairs);
      seq = first_part (later_parts (later_parts pairs));
    }

abbrev pub is_ascii : List ℕ → Bool
is_ascii text = list_all (λ b. nat_lt b 128) text

-- what the parameters of a route took of a target, in their order. All that they may hold is ASCII
abbrev pub pairs_in : (pattern text : List ℕ) → List (ℕ × ℕ) → (target : List ℕ) → List (List ℕ × List ℕ)
pairs_in pattern text names target = if is_ascii target then walk pattern text target names 0 0 else []

abbrev pub target_by : (method target : List ℕ) → Option (RouteOf Route) → Option TargetModel
target_by method target None = None
target_by method target (Some route) =
    option_map (λ (action : Action). target_of action (pairs_in route.pattern route.text route.names target))
    (action_of method route.value)

-- what a method and a target ask of a router, if the target is a route and the method one of it
abbrev pub target_at : RowsOf (RouteOf Route) → (method target : List ℕ) → Option TargetModel
target_at rows method target = if list_any is_mark target then None else target_by method target (first rows target)

-- the target is a route
abbrev pub is_route : RowsOf (RouteOf Route) → List ℕ → Bool
is_route rows target = if list_any is_mark target then false else is_some (first rows target)
