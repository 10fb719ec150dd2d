-- Where a router has one route and that is a plain text, it finds that text and no other.
use Rattle.room_wire.proofs.Common.{◌≡◌, ℕ, ◌==◌, ◌&&◌, Bool, true, false, List, [], ◌∷◌, cond, nat_lt, refl, sym, ap}
use Rattle.room_wire.proofs.Common.{◌∙◌, arith, Option, None, Some, codes, is_some, bytes_eq, list_all, list_any}
use Rattle.room_wire.proofs.Common.{and_parts, ltb-true, nat_tests, bytes_eq-Decides, Rows, RouteOf, map_key, seek}
use Rattle.room_wire.proofs.Common.{first, matchit_on_literals, Route, is_mark, is_route, check_rows}
use Rattle.matchit.proofs.SeekLemmas.{seek-empty, seek-lit}
use Rattle.matchit.proofs.RenameLemmas.{seek-rename}
use Rattle.room_wire.specs.declared.asks.routing.Route.TheVariants.{Check}

-- the one route of a plain text
abbrev one : List ℕ → Rows
one text = (text, 0) ∷ []

one_step : (x b : ℕ) (t path : List ℕ) (same : Bool) → (x == b) ≡ same → is_some (seek 0 (one t) path) ≡ bytes_eq path t
    → is_some (seek {K = ℕ} 0 (cond (x == b) (one t) []) path) ≡ ((b == x) && bytes_eq path t)
one_step x b t path true e rest = let turned : (b == x) ≡ true = grind (arith, nat_tests) in rw (e, turned) rest
one_step x b t path false e rest = let turned : (b == x) ≡ false = grind (arith, nat_tests) in
    rw (e, turned) (ap is_some (seek-empty 0 path))

pub literal : (t path : List ℕ) → list_all (λ x. nat_lt x 256) t ≡ true
    → is_some (seek 0 (one t) path) ≡ bytes_eq path t
unfolding matchit_on_literals
literal [] [] h = refl
literal [] (b ∷ path) h = ap is_some (seek-empty 0 (b ∷ path))
literal (x ∷ t) [] h = refl
literal (x ∷ t) (b ∷ path) h =
    let parts = and_parts (nat_lt x 256) (list_all (λ y. nat_lt y 256) t) h in
    ap is_some (seek-lit x [] (one t) b path (ltb-true x 256 parts.0))
    ∙ one_step x b t path (x == b) refl (literal t path parts.1)

kept : {K L : Type 0} (f : K → L) (found : Option K) → is_some (map_key f found) ≡ is_some found
kept f None = refl
kept f (Some k) = refl

found_is : (target : List ℕ) → is_some (first check_rows target) ≡ bytes_eq target (codes "/v1/check")
found_is target =
    let route : RouteOf Route =
    record { pattern = codes "/v1/check"; text = codes "/v1/check"; names = []; value = Check } in
    ap is_some (seek-rename (λ (k : ℕ). route) 0 (one (codes "/v1/check")) target)
    ∙ kept (λ (k : ℕ). route) (seek 0 (one (codes "/v1/check")) target) ∙ literal (codes "/v1/check") target refl

-- no mark stands in that text
marks : (target : List ℕ) (marked same : Bool) → list_any is_mark target ≡ marked
    → bytes_eq target (codes "/v1/check") ≡ same → cond marked false same ≡ same
marks target false same e f = refl
marks target true false e f = refl
marks target true true e f =
    let is : target ≡ codes "/v1/check" = (bytes_eq-Decides target (codes "/v1/check")).0 f in
    let none : list_any is_mark target ≡ false = ap (list_any is_mark) is in
    cc

-- a target is the route where it is its text
pub route_is : (target : List ℕ) → is_route check_rows target ≡ bytes_eq target (codes "/v1/check")
route_is target = ap (cond (list_any is_mark target) false) (found_is target)
    ∙ marks target (list_any is_mark target) (bytes_eq target (codes "/v1/check")) refl refl

-- whether the router finds it says whether a method that is right or not asks a question of it
pub asks_found : (right : Bool) (target : List ℕ) (route : RouteOf Route) → first check_rows target ≡ Some route
    → right ≡ (right && bytes_eq target (codes "/v1/check"))
asks_found true target route e = sym (ap is_some e) ∙ found_is target
asks_found false target route e = refl

pub asks_missing : (right : Bool) (target : List ℕ) → first check_rows target ≡ None
    → false ≡ (right && bytes_eq target (codes "/v1/check"))
asks_missing true target e = sym (ap is_some e) ∙ found_is target
asks_missing false target e = refl
