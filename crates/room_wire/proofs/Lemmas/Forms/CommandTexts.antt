-- The text of a value with no float reads as that value.
use Rattle.room_wire.proofs.Common.{◌≡◌, ◌≤◌, ◌<◌, ◌^◌, ℕ, List, [], ◌∷◌, refl, sym, ap, ◌∙◌, append-nil, Some, decimal}
use Rattle.room_wire.proofs.Common.{option_map, option_and_then, AllByRecursion, json_tokens, HasNumbers, depth, Data}
use Rattle.room_wire.proofs.Common.{number, object, Items, item, Members, no_members, unsigned, put, read, max_depth}
use Rattle.room_wire.proofs.Common.{of_json, of_items, of_members, outline, members_outline, compact_text, members, obj}
use Rattle.json.specs.Lex.{tokens}
use Rattle.json.specs.Json as json
use Rattle.json.proofs.Printed.Tokens.{tokens-print}
use Rattle.json.proofs.Printed.Trees.{value-json_tokens, ArePrintable-json_tokens}
use Rattle.serde_json.proofs.Numbers.{number_of-decimal}
use Rattle.serde_json.proofs.Texts.{print-outline}

pub text_reads : (d : Data) → HasNumbers (outline d) → depth (outline d) ≤ max_depth
    → of_json (outline d) ≡ Some d → read (compact_text d) ≡ Some d
text_reads d numbers shallow back =
    let same : tokens (compact_text d) ≡ json_tokens (outline d) = ap tokens (sym (print-outline d))
    ∙ tokens-print (json_tokens (outline d)) (ArePrintable-json_tokens (outline d) numbers) in
    ap (λ o. option_and_then of_json (option_and_then (λ p. json.if_last p.0 p.1) o))
    (ap (json.value max_depth) (same ∙ sym (append-nil _)) ∙ value-json_tokens (outline d) max_depth [] shallow)
    ∙ back

pub number_back : (n : ℕ) → n < 2 ^ 64 → of_json (json.number (decimal n)) ≡ Some (number (unsigned n))
number_back n small = ap (option_map number) (number_of-decimal n small)

abbrev pub ReadsBack : List ℕ × Data → Type 0
ReadsBack m = of_json (outline m.1) ≡ Some m.1

-- the members, put in one after another
abbrev pub put_all : List (List ℕ × Data) → Members → Members
put_all [] found = found
put_all (m ∷ ms) found = put_all ms (put m.0 m.1 found)

members_read : (ms : List (List ℕ × Data)) (found : Members) → AllByRecursion ReadsBack ms
    → of_members (members_outline (members ms)) found ≡ Some (put_all ms found)
members_read [] found h = refl
members_read (m ∷ ms) found h = ap (option_and_then (λ x. of_members (members_outline (members ms)) (put m.0 x found)))
    h.0 ∙ members_read ms (put m.0 m.1 found) h.1

-- an object whose members stand in order
pub object_back : (ms : List (List ℕ × Data)) → AllByRecursion ReadsBack ms
    → put_all ms no_members ≡ members ms → of_json (outline (obj ms)) ≡ Some (obj ms)
object_back ms h order = ap (option_map object) (members_read ms no_members h) ∙ ap (λ k. Some (object k)) order

-- one item more
pub item_back : (j : json.Json) (js : json.Items) (d : Data) (ds : Items) → of_json j ≡ Some d
    → of_items js ≡ Some ds → of_items (json.item j js) ≡ Some (item d ds)
item_back j js d ds e rest =
    ap (option_and_then (λ x. option_map (item x) (of_items js))) e ∙ ap (option_map (item d)) rest
