use Rattle.std.proofs.Common.{◌≡◌, ◌∙◌, ap, sym, rules, Some, option_map, Bor, List, ℕ}
use Rattle.clap.specs.Words.{found_of, first_of, rows_of}
use Rattle.clap.proofs.WalkLemmas.{first_value-rows}
use Rattle.room_words.proofs.rows.text.Goals as goal

pub returns-clause-value : goal.returns-clause-value
returns-clause-value c =
    let found : first_of c.args.name.now (rows_of (found_of c.args.values.now)) ≡ Some c.in-Some.text.now =
    sym (first_value-rows (found_of c.args.values.now) c.args.name.now)
    ∙ sym c.get_str.ensures ∙ ap (option_map (λ (s : Bor (List ℕ)). s.now)) c.in-Some.is in
    search (rules, found)
