-- What the router of a room gives of a target is what the plain texts of its routes say.
use Rattle.room_wire.proofs.Common.{◌≡◌, ℕ, ◌==◌, ◌&&◌, ◌||◌, Bool, true, false, List, [], ◌∷◌, ◌++◌, cond, length}
use Rattle.room_wire.proofs.Common.{get_or, Option, None, Some, refl, sym, ap, ◌∙◌, arith, codes, inl, inr, append-nil}
use Rattle.room_wire.proofs.Common.{bytes_eq, nat_lt, not, option_map, option_and_then, list_any, slice_split}
use Rattle.room_wire.proofs.Common.{onto_first, and_parts, and_from, lt-ltb, ltb-true, not-true, false_from_ne_true}
use Rattle.room_wire.proofs.Common.{length-append, bytes_eq-Decides, IsText, map_key, Route, is_ascii, is_mark}
use Rattle.room_wire.proofs.Common.{room_rows, action_of, target_by, target_at, IsPart, IsTargetOf, is_part, route_of}
use Rattle.room_wire.proofs.Common.{part_at, parted, room_target}
use Rattle.room_wire.specs.declared.asks.routing.Route.TheVariants as R
use Rattle.room_wire.specs.declared.asks.routing.Action.{Action}
use Rattle.room_wire.proofs.Lemmas.Asks.Finds.{IsRouteOf, after, version_found, room_tells, told}
use Rattle.room_wire.proofs.Lemmas.Asks.Routes.{key, found_is, number, to_number, from_number, some_of, made, asked_by}

abbrev is_slash : ℕ → Bool
is_slash b = b == 47

-- ---- what stands between the slashes

split_part : (text rest : List ℕ) (more : List (List ℕ)) → list_any is_slash text ≡ false
    → slice_split is_slash rest ≡ [] ∷ more → slice_split is_slash (text ++ rest) ≡ text ∷ more
split_part [] rest more h e = e
split_part (b ∷ text) rest more h e = by (b == 47) h (λ plain. split_part text rest more plain e)
  where
    by : (v : Bool) → (v || list_any is_slash text) ≡ false
        → (list_any is_slash text ≡ false → slice_split is_slash (text ++ rest) ≡ text ∷ more)
        → cond v ([] ∷ slice_split is_slash (text ++ rest)) (onto_first b (slice_split is_slash (text ++ rest)))
        ≡ (b ∷ text) ∷ more
    by true h go = absurd cc
    by false h go = ap (onto_first b) (go h)

last_part : (text : List ℕ) → list_any is_slash text ≡ false → slice_split is_slash text ≡ text ∷ []
last_part text h = ap (slice_split is_slash) (sym (append-nil text)) ∙ split_part text [] [] h refl

session_parts : (sid : List ℕ) → IsPart sid → slice_split is_slash (codes "/v1/sessions/" ++ sid)
    ≡ [] ∷ codes "v1" ∷ codes "sessions" ∷ sid ∷ []
session_parts sid h = ap (λ (z : List (List ℕ)). [] ∷ codes "v1" ∷ codes "sessions" ∷ z) (last_part sid h.1)

slot_parts : (sid slot seq : List ℕ) → IsPart sid → IsPart slot → IsPart seq → slice_split is_slash
    (codes "/v1/sessions/" ++ (sid ++ (codes "/slots/" ++ (slot ++ (codes "/" ++ seq)))))
    ≡ [] ∷ codes "v1" ∷ codes "sessions" ∷ sid ∷ codes "slots" ∷ slot ∷ seq ∷ []
slot_parts sid slot seq h i j =
    let c = ap (λ (z : List (List ℕ)). [] ∷ z) (last_part seq j.1) in
    let b = split_part slot (codes "/" ++ seq) (seq ∷ []) i.1 c in
    let a = split_part sid (codes "/slots/" ++ (slot ++ (codes "/" ++ seq))) (codes "slots" ∷ slot ∷ seq ∷ []) h.1
    (ap (λ (z : List (List ℕ)). [] ∷ codes "slots" ∷ z) b) in
    ap (λ (z : List (List ℕ)). [] ∷ codes "v1" ∷ codes "sessions" ∷ z) a

parts_are : (route : Route) (target sid slot seq : List ℕ) → IsTargetOf route target sid slot seq
    → (part_at 3 target ≡ sid) × (part_at 5 target ≡ slot) × (part_at 6 target ≡ seq)
parts_are R.Check target sid slot seq h =
    (ap (part_at 3) h.0 ∙ sym h.1, ap (part_at 5) h.0 ∙ sym h.2, ap (part_at 6) h.0 ∙ sym h.3)
parts_are R.Session target sid slot seq h =
    let parts = ap (slice_split is_slash) h.0 ∙ session_parts sid h.1 in
    (ap (λ z. get_or z 3 []) parts, ap (λ z. get_or z 5 []) parts ∙ sym h.2, ap (λ z. get_or z 6 []) parts ∙ sym h.3)
parts_are R.Slot target sid slot seq h =
    let parts = ap (slice_split is_slash) h.0 ∙ slot_parts sid slot seq h.1 h.2 h.3 in
    (ap (λ z. get_or z 3 []) parts, ap (λ z. get_or z 5 []) parts, ap (λ z. get_or z 6 []) parts)

-- ---- the route by its text

part_test : (text : List ℕ) → IsPart text → is_part text ≡ true
part_test text h = and_from _ _ (lt-ltb 0 (length text) h.0) (ap not h.1)

part_fact : (text : List ℕ) → is_part text ≡ true → IsPart text
part_fact text h =
    let p = and_parts (nat_lt 0 (length text)) (not (list_any is_slash text)) h in
    (ltb-true 0 (length text) p.0, not-true (list_any is_slash text) p.1)

same : (text : List ℕ) → bytes_eq text text ≡ true
same text = (bytes_eq-Decides text text).1 refl

abbrev slot_target : (sid slot seq : List ℕ) → List ℕ
slot_target sid slot seq = codes "/v1/sessions/" ++ (sid ++ (codes "/slots/" ++ (slot ++ (codes "/" ++ seq))))

abbrev slot_route : (target sid slot seq : List ℕ) → Option Route
slot_route target sid slot seq =
    cond (is_part sid && (is_part slot && (is_part seq && bytes_eq target (slot_target sid slot seq))))
    (Some R.Slot) None

-- a target of a slot is none of a session
longer : (sid rest : List ℕ) → bytes_eq (codes "/v1/sessions/" ++ (sid ++ (codes "/slots/" ++ rest)))
    (codes "/v1/sessions/" ++ sid) ≡ false
longer sid rest = false_from_ne_true _ (λ e.
    let long = codes "/v1/sessions/" ++ (sid ++ (codes "/slots/" ++ rest)) in
    let same_text : long ≡ codes "/v1/sessions/" ++ sid = (bytes_eq-Decides long (codes "/v1/sessions/" ++ sid)).0 e in
    let is = ap length same_text in
    let more = length-append sid (codes "/slots/" ++ rest) in
    omega (arith, is, more))

route_is : (route : Route) (target sid slot seq : List ℕ) → IsTargetOf route target sid slot seq
    → route_of target sid slot seq ≡ Some route
route_is R.Check target sid slot seq h = ap (λ t. route_of t sid slot seq) h.0
route_is R.Session target sid slot seq h =
    let text = codes "/v1/sessions/" ++ sid in
    ap (λ t. route_of t sid slot seq) h.0
    ∙ ap (λ b. cond b (Some R.Session) (slot_route text sid slot seq)) (and_from _ _ (part_test sid h.1) (same text))
route_is R.Slot target sid slot seq h =
    let text = slot_target sid slot seq in
    let none = longer sid (slot ++ (codes "/" ++ seq)) in
    ap (λ t. route_of t sid slot seq) h.0
    ∙ ap (λ b. cond (is_part sid && b) (Some R.Session) (slot_route text sid slot seq)) none
    ∙ ap (λ b. cond (b && false) (Some R.Session) (slot_route text sid slot seq)) (part_test sid h.1)
    ∙ ap (λ b. cond b (Some R.Slot) None) (and_from _ _ (part_test sid h.1)
    (and_from _ _ (part_test slot h.2) (and_from _ _ (part_test seq h.3) (same text))))

-- where the router finds no route, the target has no route's text
no_route : (target sid slot seq : List ℕ) → after (codes "/v1/") version_found target ≡ None
    → route_of target sid slot seq ≡ None
no_route target sid slot seq e =
    by (bytes_eq target (codes "/v1/check")) refl (is_part sid && bytes_eq target (codes "/v1/sessions/" ++ sid)) refl
    (is_part sid && (is_part slot && (is_part seq && bytes_eq target (slot_target sid slot seq)))) refl
  where
    none : (k : ℕ) → IsRouteOf k target → ⊥
    none k h = let found = told target k h in cc

    by : (u : Bool) → bytes_eq target (codes "/v1/check") ≡ u
        → (v : Bool) → (is_part sid && bytes_eq target (codes "/v1/sessions/" ++ sid)) ≡ v
        → (w : Bool)
        → (is_part sid && (is_part slot && (is_part seq && bytes_eq target (slot_target sid slot seq)))) ≡ w
        → cond u (Some R.Check) (cond v (Some R.Session) (cond w (Some R.Slot) None)) ≡ None
    by true is v g w h = absurd (none 0 (inl (refl, (bytes_eq-Decides _ _).0 is)))
    by false f true is w h =
        let p = and_parts (is_part sid) _ is in
        absurd (none 2 (inr (inl (refl, (sid, some_of sid (part_fact sid p.0), (bytes_eq-Decides _ _).0 p.1)))))
    by false f false g true is =
        let p = and_parts (is_part sid) _ is in
        let q = and_parts (is_part slot) _ p.1 in
        let r = and_parts (is_part seq) _ q.1 in
        absurd (none 1 (inr (inr (
          refl,
          (
            sid,
            slot,
            seq,
            some_of sid (part_fact sid p.0),
            some_of slot (part_fact slot q.0),
            some_of seq (part_fact seq r.0),
            (bytes_eq-Decides _ _).0 r.1,
          ),
        ))))
    by false f false g false h = refl

-- ---- what is asked

-- what is read of a target
abbrev legible : List ℕ → List ℕ
legible target = cond (is_ascii target) target []

with_parts : (method target sid slot seq : List ℕ) (route : Route) → IsTargetOf route target sid slot seq
    → (ascii : Bool) → is_ascii target ≡ ascii → target_by method target (Some (key (number route)))
    ≡ option_map (parted (cond ascii target [])) (action_of method route)
unfolding key
with_parts method target sid slot seq route h true a =
    let are = parts_are route target sid slot seq h in
    asked_by method target sid slot seq route a h
    ∙ (λ i. option_map (λ (action : Action). made action (sym are.0 i) (sym are.1 i) (sym are.2 i))
    (action_of method route))
with_parts method target sid slot seq R.Check h false a = rw a refl
with_parts method target sid slot seq R.Session h false a = rw a refl
with_parts method target sid slot seq R.Slot h false a = rw a refl

found_same : (method target : List ℕ) (found : Option ℕ) → after (codes "/v1/") version_found target ≡ found
    → target_by method target (map_key key found) ≡ option_map (parted (legible target))
    (option_and_then (action_of method) (route_of target (part_at 3 target) (part_at 5 target) (part_at 6 target)))
found_same method target None e =
    sym (ap (λ r. option_map (parted (legible target)) (option_and_then (action_of method) r))
    (no_route target (part_at 3 target) (part_at 5 target) (part_at 6 target) e))
found_same method target (Some k) e =
    let (route, sid, slot, seq, h) = from_number k target (room_tells target k e) in
    let here : Some k ≡ Some (number route) =
    sym e ∙ told target (number route) (to_number route target sid slot seq h) in
    let are = parts_are route target sid slot seq h in
    let is : route_of target (part_at 3 target) (part_at 5 target) (part_at 6 target) ≡ Some route =
    (λ i. route_of target (are.0 i) (are.1 i) (are.2 i)) ∙ route_is route target sid slot seq h in
    ap (λ f. target_by method target (map_key key f)) here
    ∙ with_parts method target sid slot seq route h (is_ascii target) refl
    ∙ sym (ap (λ r. option_map (parted (legible target)) (option_and_then (action_of method) r)) is)

pub room_target_is : (method target : List ℕ) → IsText target
    → target_at room_rows method target ≡ room_target method target
room_target_is method target text =
    ap (λ it. cond (list_any is_mark target) None it) (ap (target_by method target) (found_is target text)
    ∙ found_same method target (after (codes "/v1/") version_found target) refl)
