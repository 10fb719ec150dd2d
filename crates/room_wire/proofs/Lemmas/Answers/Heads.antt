-- The head of an answer, part by part.
use Rattle.room_wire.proofs.Common.{◌≡◌, ◌≤◌, ℕ, List, [], ◌++◌, length, ap, ◌∙◌, append_assoc, arith, AnswerModel}
use Rattle.room_wire.proofs.Common.{Reply, Refused, phrase, answer_parts}
use Rattle.room_wire.specs.Answers.Codes.{refusal_parts}
use Rattle.room_wire.specs.declared.answers.code.Code.{Code}
use Rattle.room_wire.specs.declared.answers.code.Code.TheVariants.{BadSession}

-- seven parts, one behind another
pub seven_parts : (a b c d e f g : List ℕ) {b' d' f' g' h0 h1 h2 h3 h4 h5 h6 h7 : List ℕ}
    → b' ≡ b → d' ≡ d → f' ≡ f → g' ≡ g
    → h0 ≡ [] → h1 ≡ h0 ++ a → h2 ≡ h1 ++ b' → h3 ≡ h2 ++ c
    → h4 ≡ h3 ++ d' → h5 ≡ h4 ++ e → h6 ≡ h5 ++ f' → h7 ≡ h6 ++ g'
    → h7 ≡ a ++ (b ++ (c ++ (d ++ (e ++ (f ++ g)))))
seven_parts a b c d e f g {h0 = h0} {h1 = h1} {h2 = h2} {h3 = h3} {h4 = h4} {h5 = h5} {h6 = h6}
    b_is d_is f_is g_is p0 p1 p2 p3 p4 p5 p6 p7 =
    p7 ∙ (λ i. p6 i ++ g_is i) ∙ append_assoc h5 _ g ∙ (λ i. p5 i ++ (f_is i ++ g))
    ∙ append_assoc h4 e (f ++ g) ∙ ap (λ t. t ++ (e ++ (f ++ g))) p4
    ∙ append_assoc h3 _ (e ++ (f ++ g)) ∙ (λ i. p3 i ++ (d_is i ++ (e ++ (f ++ g))))
    ∙ append_assoc h2 c (d ++ (e ++ (f ++ g))) ∙ ap (λ t. t ++ (c ++ (d ++ (e ++ (f ++ g))))) p2
    ∙ append_assoc h1 _ (c ++ (d ++ (e ++ (f ++ g))))
    ∙ (λ i. (p1 ∙ ap (λ t. t ++ a) p0) i ++ (b_is i ++ (c ++ (d ++ (e ++ (f ++ g))))))

code_phrase_fits : (code : Code) → length (phrase (refusal_parts code).0) ≤ 32
code_phrase_fits BadSession = omega arith
code_phrase_fits code = omega arith

pub phrase_fits : (answer : AnswerModel) → length (phrase (answer_parts answer).0) ≤ 32
phrase_fits (Reply text) = omega arith
phrase_fits (Refused code) = code_phrase_fits code
