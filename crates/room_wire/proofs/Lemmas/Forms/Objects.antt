-- Members and items of JSON values.
use Rattle.room_wire.proofs.Common.{◌≡◌, ℕ, ◌+◌, false, List, [], ◌∷◌, length, map, refl, sym, ap, ◌∙◌, arith, Some}
use Rattle.room_wire.proofs.Common.{◌==◌, String, option_map_or, length-map, Data, Members, as_object, view, members_of}
use Rattle.room_wire.proofs.Common.{members_view, count, has_count}
use Rattle.std.specs.declared.alloc.Global.{Global}
use Rattle.serde_json.specs.declared.value.Value.{Value}

count_of : (ms : List (String Global × Data)) → count (members_of ms) ≡ length ms
count_of [] = refl
count_of (m ∷ ms) = ap (λ n. n + 1) (count_of ms) ∙ (omega arith)

pub count_view : (ms : List (String Global × Value)) → count (members_view ms) ≡ length ms
count_view ms = count_of (map (λ (m : String Global × Value). (m.0, view m.1)) ms) ∙ simp length-map

pub object_is : (n : ℕ) (d : Data) (ms : Members) → Some ms ≡ as_object d → has_count n d ≡ (count ms == n)
object_is n d ms e = ap (λ found. option_map_or (λ members. count members == n) found false) (sym e)
