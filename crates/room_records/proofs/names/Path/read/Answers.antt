use Rattle.room_records.proofs.Common.{◌≡◌, ℕ, List, map, length, [], ◌∷◌, rules, sym, ap, subst, ◌∙◌, Some, Bor}
use Rattle.room_records.proofs.Common.{length-map, slice_split, ◌==◌, IsPath}
use Rattle.std.proofs.lemmas.Slice.Eq.{bytes_eq-Decides}
use Rattle.room_records.proofs.Options.{none_is_not_some}
use Rattle.room_records.proofs.PathParts.{root_is_path}
use Rattle.room_records.proofs.PathTexts.{only_root, parts_are_path, text_of_names}
use Rattle.room_records.proofs.names.Path.read.Goals as goal
use Rattle.room_records.proofs.names.Path.read.Goals.{then-not-is_empty-via-then-not-is_empty}
use Rattle.room_records.proofs.names.Path.read.Goals.{then-not-is_empty-via-else-not-is_empty+then-is_empty}

length_map_now : (parts : List (Bor (List ℕ))) → length (map (λ p. p.now) parts) ≡ length parts
length_map_now parts = length-map parts (λ p. p.now)

pub invariant_of-result : goal.invariant_of-result
invariant_of-result c = subst IsPath (sym c.new.ensures.items) root_is_path

pub returns-then-eq-clause-some : goal.returns-then-eq-clause-some
returns-then-eq-clause-some c = (subst IsPath (sym c.new.ensures.items) root_is_path, search rules)

pub returns-then-eq-clause-every : goal.returns-then-eq-clause-every
returns-then-eq-clause-every c = λ path lawful is.
    let root = (bytes_eq-Decides c.args.text.now (47 ∷ [])).0 (sym c.eq.ensures ∙ c.if-eq.true) in
    ap Some (c.new.ensures.items ∙ sym (only_root path lawful (is ∙ root)))

pub returns-then-not-is_empty-clause-every : goal.returns-then-not-is_empty-clause-every
returns-then-not-is_empty-clause-every c = λ path lawful is.
    let parts = parts_are_path c.args.text.now c.in-Some.front.now.now (map (λ p. p.now) c.in-Some.parts.now)
    (search rules) (λ e. search rules) path lawful is in
    elim c.then-not-is_empty.branch [
      | then-not-is_empty-via-then-not-is_empty w ↦ absurd (let e = ap length parts.no_front in search rules)
      | then-not-is_empty-via-else-not-is_empty+then-is_empty w ↦
          absurd (parts.some (length_map_now c.in-Some.parts.now ∙ search rules))
    ]

pub returns-in-Some-2-clause-some : goal.returns-in-Some-2-clause-some
returns-in-Some-2-clause-some c =
    let cut : slice_split (λ b. b == 47) c.args.text.now
    ≡ c.in-Some.front.now.now ∷ map (λ p. p.now) c.in-Some.parts.now = search rules in
    let names : c.in-Some-2.names.items ≡ map (λ p. p.now) c.in-Some.parts.now = search rules in (
      rw names (search rules),
      rw names (text_of_names c.args.text.now _ _ cut
          (search rules) (λ none. let e = sym (length_map_now c.in-Some.parts.now) ∙ none in search rules)),
    )

pub returns-in-Some-2-clause-every : goal.returns-in-Some-2-clause-every
returns-in-Some-2-clause-every c = λ path lawful is.
    let parts = parts_are_path c.args.text.now c.in-Some.front.now.now (map (λ p. p.now) c.in-Some.parts.now)
    (search rules) (λ e. search rules) path lawful is in
    let names : c.in-Some-2.names.items ≡ map (λ p. p.now) c.in-Some.parts.now = search rules in
    ap Some (names ∙ parts.are)

pub returns-clause-every : goal.returns-clause-every
returns-clause-every c = λ path lawful is.
    let parts = parts_are_path c.args.text.now c.in-Some.front.now.now (map (λ p. p.now) c.in-Some.parts.now)
    (search rules) (λ e. search rules) path lawful is in
    absurd (none_is_not_some c.in_ok-names.field-0 c.in-None.is
    (c.in_ok-names.ensures.lawful.1 (rw parts.are lawful)))
