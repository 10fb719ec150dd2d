use Rattle.room_records.proofs.Common.{ℕ, List, ◌∷◌, [], map, get_or, length, ◌<◌, Bor, suc, zero, arith, refl, ap}
use Rattle.room_records.proofs.Common.{subst, ◌∙◌, length-map, take_all, AllByRecursion, IsFileName}
use Rattle.room_records.proofs.Options.{none_is_not_some}
use Rattle.room_records.proofs.PathParts.{path_parts, path_of_names}
use Rattle.room_records.proofs.names.read_names.Goals as goal

part_is_name : (parts : List (Bor (List ℕ))) (i : ℕ) (d : Bor (List ℕ))
    → AllByRecursion IsFileName (map (λ p. p.now) parts) → i < length parts → IsFileName (get_or parts i d).now
part_is_name [] i d all below = absurd (omega arith)
part_is_name (part ∷ parts) zero d all below = all.0
part_is_name (part ∷ parts) (suc i) d all below = part_is_name parts i d all.1 (omega arith)

pub returns-then-parts-gt-MAX_NAMES-clause-lawful : goal.returns-then-parts-gt-MAX_NAMES-clause-lawful
returns-then-parts-gt-MAX_NAMES-clause-lawful c = (
  λ h. absurd cc,
  λ lawful. (let short = (path_parts _ lawful).short in
      let count = length-map c.args.parts.now (λ (p : Bor (List ℕ)). p.now) in
      absurd (omega (arith, short, count, c.if-parts-gt-MAX_NAMES.true))),
)

pub returns-clause-lawful : goal.returns-clause-lawful
returns-clause-lawful c = (
  λ h. (let short = length-map c.args.parts.now (λ (p : Bor (List ℕ)). p.now) in
      path_of_names _ (omega (arith, short, c.if-parts-gt-MAX_NAMES.false))
      (subst (AllByRecursion IsFileName) (c.loop-part.invariant.so_far
      ∙ ap (map (λ (p : Bor (List ℕ)). p.now)) (take_all _ c.args.parts.now c.loop-part-test.false))
      c.loop-part.invariant.lawful)),
  λ lawful. refl,
)

pub returns-in_default-clause-lawful : goal.returns-in_default-clause-lawful
returns-in_default-clause-lawful c = (
  λ h. absurd cc,
  λ lawful. absurd (none_is_not_some c.in_ok-name.field-0 c.in_default.is (c.in_ok-name.ensures.lawful.1
      (part_is_name c.args.parts.now c.loop-part.part-index _ (path_parts _ lawful).names (omega arith)))),
)
