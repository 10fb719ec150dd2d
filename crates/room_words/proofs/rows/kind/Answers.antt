use Rattle.std.proofs.Common.{◌∙◌, ap, sym, Some, option_map, Bor, List, ℕ, codes}
use Rattle.clap.specs.Words.{found_of}
use Rattle.clap.proofs.WalkLemmas.{first_value-rows}
use Rattle.room_words.proofs.rows.kind.Goals as goal

pub returns-in-Some-access-clause-value : goal.returns-in-Some-access-clause-value
returns-in-Some-access-clause-value c =
    sym (first_value-rows (found_of c.args.values.now) (codes "KIND")) ∙ sym c.get_str.ensures
    ∙ ap (option_map (λ (s : Bor (List ℕ)). s.now)) c.in-Some-access.is ∙ ap Some c.in-Some-access.is-access

pub returns-in-Some-lists-clause-value : goal.returns-in-Some-lists-clause-value
returns-in-Some-lists-clause-value c =
    sym (first_value-rows (found_of c.args.values.now) (codes "KIND")) ∙ sym c.get_str.ensures
    ∙ ap (option_map (λ (s : Bor (List ℕ)). s.now)) c.in-Some-lists.is ∙ ap Some c.in-Some-lists.is-lists
