-- Keys that a map tells apart.
use Rattle.room_cache.proofs.Common.{◌≡◌, ℕ, ap, sym, ◌∙◌, refl, true, false, List, is_eq, eq_by_cmp, name_cmp}
use Rattle.std.specs.declared.cmp.Ordering.{Ordering}
use Rattle.std.specs.declared.cmp.Ordering.TheVariants.{Less, Equal, Greater}
use Rattle.std.proofs.lemmas.Cmp.{tied_itself, nat_list_cmp_total}
use Rattle.std.proofs.lemmas.Map.Lookups.{exact_bytes}

is_equal : (order : Ordering) → is_eq order ≡ true → order ≡ Equal
is_equal Less is = absurd cc
is_equal Equal is = refl
is_equal Greater is = absurd cc

pub same_name : (a b : List ℕ) → eq_by_cmp name_cmp a b ≡ true → a ≡ b
same_name a b is = exact_bytes a b (is_equal (name_cmp a b) is)

pub other_name : (a b : List ℕ) → eq_by_cmp name_cmp a b ≡ false → b ≡ a → ⊥
other_name a b is same =
    let f : false ≡ true = sym is ∙ ap (eq_by_cmp name_cmp a) same ∙ ap is_eq (tied_itself nat_list_cmp_total a) in cc
