-- The routes of a room are exactly their targets.
use Rattle.room_wire.proofs.Common.{◌≡◌, ◌<◌, ℕ, zero, suc, ◌==◌, Bool, true, false, List, [], ◌∷◌, cond, Option, None}
use Rattle.room_wire.proofs.Common.{Some, refl, sym, ap, ◌∙◌, arith, codes, inl, inr, ◌||◌, ◌↔◌, is_some, nat_lt}
use Rattle.room_wire.proofs.Common.{option_map, AllByRecursion, list_all, list_any, and_parts, ltb-true, IsText, walk}
use Rattle.room_wire.proofs.Common.{RouteOf, map_key, first, has_slash, Route, is_ascii, is_mark, is_route, room_rows}
use Rattle.room_wire.proofs.Common.{session_tokens, slot_tokens, TargetModel, action_of, target_by, target_at}
use Rattle.room_wire.proofs.Common.{first_part, IsPart, IsTargetOf}
use Rattle.matchit.proofs.RenameLemmas.{first-rename}
use Rattle.room_wire.specs.declared.asks.routing.Route.TheVariants as R
use Rattle.room_wire.specs.declared.asks.routing.Action.{Action}
use Rattle.room_wire.proofs.Lemmas.Asks.Finds.{rows_of_room, after, version_found, room_is, room_tells, told}
use Rattle.room_wire.proofs.Lemmas.Asks.Finds.{IsSome, IsRouteOf}
use Rattle.room_wire.proofs.Lemmas.Asks.Walks.{walk_session, walk_slot}

-- ---- bytes and parts

any_slash : (text : List ℕ) → list_any (λ b. b == 47) text ≡ has_slash text
any_slash [] = refl
any_slash (b ∷ text) = by (b == 47) (any_slash text)
  where
    by : (v : Bool) → list_any (λ c. c == 47) text ≡ has_slash text
        → (v || list_any (λ c. c == 47) text) ≡ cond v true (has_slash text)
    by true rest = refl
    by false rest = rest

pub some_of : (text : List ℕ) → IsPart text → IsSome text
some_of text h = (h.0, sym (any_slash text) ∙ h.1)

part_of : (text : List ℕ) → IsSome text → IsPart text
part_of text h = (h.0, any_slash text ∙ h.1)

pub bytes_text : (text : List ℕ) → AllByRecursion (λ b. b < 256) text → IsText text
bytes_text [] h = tt
bytes_text (b ∷ text) h = (h.0, bytes_text text h.1)

pub ascii_text : (text : List ℕ) → is_ascii text ≡ true → IsText text
ascii_text [] h = tt
ascii_text (b ∷ text) h =
    let parts = and_parts (nat_lt b 128) (list_all (λ c. nat_lt c 128) text) h in
    let low = ltb-true b 128 parts.0 in
    (omega arith, ascii_text text parts.1)

-- ---- the routes by their numbers

unfoldable pub key : ℕ → RouteOf Route
key zero = record { pattern = codes "/v1/check"; text = codes "/v1/check"; names = []; value = R.Check }
key (suc zero) = record {
  pattern = slot_tokens;
  text = codes "/v1/sessions/{sid}/slots/{slot}/{seq}";
  names = (14, 17) ∷ (26, 30) ∷ (33, 36) ∷ [];
  value = R.Slot;
}
key (suc (suc n)) =
    record { pattern = session_tokens; text = codes "/v1/sessions/{sid}"; names = (14, 17) ∷ []; value = R.Session }

pub found_is : (target : List ℕ) → IsText target
    → first room_rows target ≡ map_key key (after (codes "/v1/") version_found target)
unfolding key
found_is target h = first-rename key rows_of_room target ∙ ap (map_key key) (room_is target h)

abbrev pub number : Route → ℕ
number R.Check = 0
number R.Slot = 1
number R.Session = 2

pub to_number : (route : Route) (target sid slot seq : List ℕ) → IsTargetOf route target sid slot seq
    → IsRouteOf (number route) target
to_number R.Check target sid slot seq h = inl (refl, h.0)
to_number R.Session target sid slot seq h = inr (inl (refl, (sid, some_of sid h.1, h.0)))
to_number R.Slot target sid slot seq h =
    inr (inr (refl, (sid, slot, seq, some_of sid h.1, some_of slot h.2, some_of seq h.3, h.0)))

pub from_number : (k : ℕ) (target : List ℕ) → IsRouteOf k target
    → (route : Route) × (sid slot seq : List ℕ) × IsTargetOf route target sid slot seq
from_number k target (inl h) = (R.Check, [], [], [], (h.1, refl, refl, refl))
from_number k target (inr (inl h)) = (R.Session, h.1.0, [], [], (h.1.2, part_of h.1.0 h.1.1, refl, refl))
from_number k target (inr (inr h)) = (
  R.Slot,
  h.1.0,
  h.1.1,
  h.1.2,
  (h.1.6, part_of h.1.0 h.1.3, part_of h.1.1 h.1.4, part_of h.1.2 h.1.5),
)

-- ---- which targets are routes

abbrev IsTarget : List ℕ → Type 0
IsTarget target = (list_any is_mark target ≡ false)
    × ((route : Route) × (sid slot seq : List ℕ) × IsTargetOf route target sid slot seq)

a_target : (target : List ℕ) (marked : Bool) → list_any is_mark target ≡ marked → (found : Option ℕ)
    → after (codes "/v1/") version_found target ≡ found → cond marked false (is_some (map_key key found)) ≡ true
    → IsTarget target
a_target target true m found e h = absurd cc
a_target target false m None e h = absurd cc
a_target target false m (Some k) e h = (m, from_number k target (room_tells target k e))

pub routes_are : (target : List ℕ) → AllByRecursion (λ b. b < 256) target
    → (is_route room_rows target ≡ true) ↔ IsTarget target
routes_are target bytes =
    let is = ap (λ z. cond (list_any is_mark target) false (is_some z)) (found_is target (bytes_text target bytes)) in (
      λ h. a_target target (list_any is_mark target) refl (after (codes "/v1/") version_found target) refl (sym is ∙ h),
      λ it. is ∙ ap (λ m. cond m false (is_some (map_key key (after (codes "/v1/") version_found target)))) it.0
          ∙ ap (λ z. is_some (map_key key z))
          (told target (number it.1.0) (to_number it.1.0 target it.1.1 it.1.2 it.1.3 it.1.4)),
    )

-- ---- what is asked

abbrev pub made : Action → (sid slot seq : List ℕ) → TargetModel
made action sid slot seq = record { action = action; sid = sid; slot = slot; seq = seq }

pub asked_by : (method target sid slot seq : List ℕ) (route : Route) → is_ascii target ≡ true
    → IsTargetOf route target sid slot seq → target_by method target (Some (key (number route)))
    ≡ option_map (λ (action : Action). made action sid slot seq) (action_of method route)
unfolding key
asked_by method target sid slot seq R.Check a h = rw a
    (λ i. option_map (λ (action : Action). made action (sym h.1 i) (sym h.2 i) (sym h.3 i)) (action_of method R.Check))
asked_by method target sid slot seq R.Session a h =
    let text = codes "/v1/sessions/{sid}" in
    let takes = ap (λ t. first_part (walk session_tokens text t ((14, 17) ∷ []) 0 0)) h.0 ∙ walk_session text sid in
    rw a (λ i. option_map (λ (action : Action). made action (takes i) (sym h.2 i) (sym h.3 i))
    (action_of method R.Session))
asked_by method target sid slot seq R.Slot a h =
    let takes = walk_slot (codes "/v1/sessions/{sid}/slots/{slot}/{seq}") sid slot seq target
    (some_of sid h.1).1 (some_of slot h.2).1 h.0 in
    rw a (λ i. option_map (λ (action : Action). made action (takes.0 i) (takes.1 i) (takes.2 i))
    (action_of method R.Slot))

pub asked_is : (method target sid slot seq : List ℕ) (route : Route) → is_ascii target ≡ true
    → list_any is_mark target ≡ false → IsTargetOf route target sid slot seq → target_at room_rows method target
    ≡ option_map (λ (action : Action). made action sid slot seq) (action_of method route)
asked_is method target sid slot seq route a m h =
    let found : first room_rows target ≡ Some (key (number route)) = found_is target (ascii_text target a)
    ∙ ap (map_key key) (told target (number route) (to_number route target sid slot seq h)) in
    ap (λ b. cond b None (target_by method target (first room_rows target))) m
    ∙ ap (target_by method target) found ∙ asked_by method target sid slot seq route a h
