-- What the parameters of a route take of a target.
use Rattle.room_wire.proofs.Common.{◌≡◌, ◌<◌, ◌≤◌, ℕ, suc, ◌+◌, ◌-◌, true, false, List, [], ◌∷◌, ◌++◌, length, drop}
use Rattle.room_wire.proofs.Common.{ltb, leb, refl, sym, ap, ap₂, ◌∙◌, arith, codes, append-nil, append_assoc, subst}
use Rattle.room_wire.proofs.Common.{nat_tests, length-append, drop-append_seam, take-append_seam, walk, wild_from}
use Rattle.room_wire.proofs.Common.{wild_stop, part_of, next_at, after_token, param_token, has_slash, segment, IsText}
use Rattle.room_wire.proofs.Common.{first_part, later_parts, session_tokens, slot_tokens}
use Rattle.room_wire.proofs.Lemmas.Asks.Finds.{slashed, joined, one_more, longer, literal_text}

next_in : (len at : ℕ) → at < len → next_at len at ≡ at + 1
next_in len at h =
    let e : ltb at len ≡ true = grind (arith, nat_tests) in
    rw e refl

wild_is : (w rest : List ℕ) (len token at : ℕ) → IsText w → at + length w ≤ len
    → wild_from (w ++ param_token ∷ rest) len token at ≡ (token + length w, at + length w)
wild_is [] rest len token at h fits =
    let a : token ≡ token + 0 = omega arith in
    let b : at ≡ at + 0 = omega arith in
    ap₂ (λ (x y : ℕ). (x, y)) a b
wild_is (x ∷ w) rest len token at h fits =
    let low : ltb x param_token ≡ true = grind (arith, nat_tests, h.0) in
    let inside : at < len = omega arith in
    let fit : (at + 1) + length w ≤ len = omega arith in
    let a : (token + 1) + length w ≡ token + suc (length w) = omega arith in
    let b : (at + 1) + length w ≡ at + suc (length w) = omega arith in
    rw (low, next_in len at inside)
    (wild_is w rest len (token + 1) (at + 1) h.1 fit ∙ ap₂ (λ (x y : ℕ). (x, y)) a b)

part_in : (a b c : List ℕ) → part_of (a ++ (b ++ c)) (length a) (length a + length b) ≡ b
part_in a b c =
    let l = length-append a (b ++ c) in
    let m = length-append b c in
    let up : leb (length a) (length a + length b) ≡ true = grind (arith, nat_tests) in
    let fits : length a + length b ≤ length (a ++ (b ++ c)) = omega arith in
    let low : leb (length a + length b) (length (a ++ (b ++ c))) ≡ true = grind (arith, nat_tests) in
    let some : (length a + length b) - length a ≡ length b = omega arith in
    rw (up, low, some, drop-append_seam a (b ++ c)) (take-append_seam b c)

segment_is : (b rest : List ℕ) → has_slash b ≡ false → segment (b ++ 47 ∷ rest) ≡ b ++ 47 ∷ []
segment_is b rest h =
    let j = joined b rest h in
    (slashed (b ++ 47 ∷ rest) j.2).0 ∙ ap (λ z. z ++ 47 ∷ []) j.0

stop_is : (a b rest : List ℕ) → has_slash b ≡ false
    → length a + length (segment (drop (length a) (a ++ (b ++ 47 ∷ rest)))) - 1 ≡ length a + length b
stop_is a b rest h =
    let less = one_more b in
    let some = longer b in
    let sum : length a + length (b ++ 47 ∷ []) - 1 ≡ length a + length b = omega arith in
    rw (drop-append_seam a (b ++ 47 ∷ rest), segment_is b rest h) sum

pub walk_session : (text sid : List ℕ)
    → first_part (walk session_tokens text (codes "/v1/sessions/" ++ sid) ((14, 17) ∷ []) 0 0) ≡ sid
walk_session text sid =
    let target = codes "/v1/sessions/" ++ sid in
    let l = length-append (codes "/v1/sessions/") sid in
    let fits : 0 + length (codes "/v1/sessions/") ≤ length target = omega arith in
    let at : wild_from (drop 0 session_tokens) (length target) 0 0 ≡ (13, 13) =
    wild_is (codes "/v1/sessions/") [] (length target) 0 0 (literal_text (codes "/v1/sessions/") refl) fits in
    let all : part_of target 13 (13 + length sid) ≡ sid =
    ap (λ z. part_of (codes "/v1/sessions/" ++ z) 13 (13 + length sid)) (sym (append-nil sid))
    ∙ part_in (codes "/v1/sessions/") sid [] in
    ap (λ (w : ℕ × ℕ). part_of target w.1 (wild_stop session_tokens w.0 target w.1)) at
    ∙ ap (part_of target 13) l ∙ all

-- a target with a part behind a front, and a slash behind that
abbrev behind : (front part rest : List ℕ) → List ℕ
behind front part rest = front ++ (part ++ 47 ∷ rest)

-- one parameter, where its part stands behind a front
takes : (front part rest : List ℕ) (place : ℕ × ℕ) (token : ℕ) → has_slash part ≡ false
    → place ≡ (token, length front)
    → ((at : ℕ) → wild_stop slot_tokens token (behind front part rest) at
    ≡ at + length (segment (drop at (behind front part rest))) - 1)
    → (part_of (behind front part rest) place.1 (wild_stop slot_tokens place.0 (behind front part rest) place.1) ≡ part)
    × (wild_stop slot_tokens place.0 (behind front part rest) place.1 ≡ length front + length part)
takes front part rest place token plain at stop =
    let ends : wild_stop slot_tokens place.0 (behind front part rest) place.1 ≡ length front + length part =
    ap (λ (w : ℕ × ℕ). wild_stop slot_tokens w.0 (behind front part rest) w.1) at
    ∙ stop (length front) ∙ stop_is front part rest plain in (
      ap₂ (part_of (behind front part rest)) (ap (λ (w : ℕ × ℕ). w.1) at) ends ∙ part_in front part (47 ∷ rest),
      ends,
    )

-- and the same of a text that is that target
takes_of : (target front part rest : List ℕ) (place : ℕ × ℕ) (token : ℕ) → target ≡ behind front part rest
    → has_slash part ≡ false → place ≡ (token, length front)
    → ((t : List ℕ) (at : ℕ) → wild_stop slot_tokens token t at ≡ at + length (segment (drop at t)) - 1)
    → (part_of target place.1 (wild_stop slot_tokens place.0 target place.1) ≡ part)
    × (wild_stop slot_tokens place.0 target place.1 ≡ length front + length part)
takes_of target front part rest place token is plain at stop =
    subst (λ t. (part_of t place.1 (wild_stop slot_tokens place.0 t place.1) ≡ part)
    × (wild_stop slot_tokens place.0 t place.1 ≡ length front + length part)) (sym is)
    (takes front part rest place token plain at (stop (behind front part rest)))

-- where the next parameter begins, behind one whose part ends there
abbrev next : (size token end : ℕ) → ℕ × ℕ
next size token end = wild_from (drop (after_token token) slot_tokens) size (after_token token) end

pub walk_slot : (text sid slot seq target : List ℕ) → has_slash sid ≡ false → has_slash slot ≡ false
    → target ≡ codes "/v1/sessions/" ++ (sid ++ (codes "/slots/" ++ (slot ++ 47 ∷ seq)))
    → (first_part (walk slot_tokens text target ((14, 17) ∷ (26, 30) ∷ (33, 36) ∷ []) 0 0) ≡ sid)
    × (first_part (later_parts (walk slot_tokens text target ((14, 17) ∷ (26, 30) ∷ (33, 36) ∷ []) 0 0)) ≡ slot)
    × (first_part (later_parts (later_parts
    (walk slot_tokens text target ((14, 17) ∷ (26, 30) ∷ (33, 36) ∷ []) 0 0))) ≡ seq)
walk_slot text sid slot seq target plain_sid plain_slot is =
    let front_2 = codes "/v1/sessions/" ++ (sid ++ codes "/slots/") in
    let front_3 = front_2 ++ (slot ++ codes "/") in
    let is_2 : target ≡ front_2 ++ (slot ++ 47 ∷ seq) = is ∙ ap (λ z. codes "/v1/sessions/" ++ z)
    (sym (append_assoc sid (codes "/slots/") (slot ++ 47 ∷ seq))) in
    let is_3 : target ≡ front_3 ++ seq = is_2 ∙ ap (λ z. front_2 ++ z) (sym (append_assoc slot (codes "/") seq))
    ∙ sym (append_assoc front_2 (slot ++ codes "/") seq) in
    let long = ap length is_3 ∙ length-append front_3 seq in
    let long_3 = length-append front_2 (slot ++ codes "/") in
    let slot_long = length-append slot (codes "/") in
    let long_2 = length-append (codes "/v1/sessions/") (sid ++ codes "/slots/") in
    let sid_long = length-append sid (codes "/slots/") in
    let size = length target in
    let w_1 = wild_from (drop 0 slot_tokens) size 0 0 in
    let fits_1 : 0 + length (codes "/v1/sessions/") ≤ size = omega arith in
    let at_1 : w_1 ≡ (13, 13) = wild_is (codes "/v1/sessions/")
    (codes "/slots/" ++ (param_token ∷ (codes "/" ++ param_token ∷ []))) size 0 0
    (literal_text (codes "/v1/sessions/") refl) fits_1 in
    let t_1 = takes_of target (codes "/v1/sessions/") sid (codes "slots/" ++ (slot ++ 47 ∷ seq)) w_1 13
    is plain_sid at_1 (λ t at. refl) in
    let w_2 = next size w_1.0 (wild_stop slot_tokens w_1.0 target w_1.1) in
    let fits_2 : (13 + length sid) + length (codes "/slots/") ≤ size = omega arith in
    let end_2 : (13 + length sid) + 7 ≡ length front_2 = omega arith in
    let at_2 : w_2 ≡ (21, length front_2) = ap₂ (next size) (ap (λ (w : ℕ × ℕ). w.0) at_1) t_1.1
    ∙ wild_is (codes "/slots/") (param_token ∷ (codes "/" ++ param_token ∷ [])) size 14 (13 + length sid)
    (literal_text (codes "/slots/") refl) fits_2 ∙ ap (λ (z : ℕ). (21, z)) end_2 in
    let t_2 = takes_of target front_2 slot seq w_2 21 is_2 plain_slot at_2 (λ t at. refl) in
    let w_3 = next size w_2.0 (wild_stop slot_tokens w_2.0 target w_2.1) in
    let fits_3 : (length front_2 + length slot) + length (codes "/") ≤ size = omega arith in
    let end_3 : (length front_2 + length slot) + 1 ≡ length front_3 = omega arith in
    let at_3 : w_3 ≡ (23, length front_3) = ap₂ (next size) (ap (λ (w : ℕ × ℕ). w.0) at_2) t_2.1
    ∙ wild_is (codes "/") [] size 22 (length front_2 + length slot) (literal_text (codes "/") refl) fits_3
    ∙ ap (λ (z : ℕ). (23, z)) end_3 in
    let whole : part_of target (length front_3) size ≡ seq =
    ap₂ (λ t n. part_of t (length front_3) n) (is_3 ∙ ap (λ z. front_3 ++ z) (sym (append-nil seq))) long
    ∙ part_in front_3 seq [] in (
      t_1.0,
      t_2.0,
      ap (λ (w : ℕ × ℕ). part_of target w.1 (wild_stop slot_tokens w.0 target w.1)) at_3 ∙ whole,
    )
