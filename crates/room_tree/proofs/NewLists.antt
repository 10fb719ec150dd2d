-- The rows after the entries of a new object were put, where it has any.
use Rattle.room_tree.proofs.Common.{◌≡◌, ◌≢◌, ℕ, refl, sym, ◌∙◌, arith, Bool, true, false, cond, eqb, List, [], ◌∷◌}
use Rattle.room_tree.proofs.Common.{◌++◌, length, Some, Vec, Global, AllByRecursion, eqb-true, EntryModel, Change}
use Rattle.room_tree.proofs.Common.{PutEntries, Node, ObjectRecords, ObjectRules, apply_to_objects}
use Rattle.room_tree.proofs.Common.{apply_all_to_objects, IsOfObjects, ObjectRulesHoldAfterEach, if_same, if_other}
use Rattle.room_tree.proofs.Common.{rules_put_entries, puts_new}

-- changes after others
pub apply_append : (changes more : List Change) (t : ObjectRecords)
    → apply_all_to_objects (changes ++ more) t ≡ apply_all_to_objects more (apply_all_to_objects changes t)
apply_append [] more t = refl
apply_append (change ∷ changes) more t = apply_append changes more (apply_to_objects change t)

pub rules_append : (changes more : List Change) (t : ObjectRecords) → ObjectRulesHoldAfterEach changes t
    → ObjectRulesHoldAfterEach more (apply_all_to_objects changes t) → ObjectRulesHoldAfterEach (changes ++ more) t
rules_append [] more t rules rest = rest
rules_append (change ∷ changes) more t rules rest =
    (rules.0, rules_append changes more (apply_to_objects change t) rules.1 rest)

-- changes that give one object this list, and change nothing else
pub record GivesList (t : ObjectRecords) (id : ℕ) (list : List EntryModel) (changes : List Change) : Type 0 where
  pub of_objects : AllByRecursion IsOfObjects changes
  pub each : ObjectRulesHoldAfterEach changes t
  pub rules : ObjectRules (apply_all_to_objects changes t)
  pub nodes : (apply_all_to_objects changes t).node ≡ t.node
  pub listed : (apply_all_to_objects changes t).entries id ≡ list
  pub away : (k : ℕ) → k ≢ id → (apply_all_to_objects changes t).entries k ≡ t.entries k
  pub documents : (apply_all_to_objects changes t).document ≡ t.document
  pub next : (apply_all_to_objects changes t).next ≡ t.next

is_empty : (items : List EntryModel) → eqb (length items) 0 ≡ true → items ≡ []
is_empty [] e = refl
is_empty (first ∷ rest) e = absurd (let none = eqb-true (length (first ∷ rest)) 0 e in omega (arith, none))

-- so do those for a new object, which has no entries before
pub gives_list : (t : ObjectRecords) (id : ℕ) (node : Node) (list : Vec EntryModel Global) → ObjectRules t
    → t.node id ≡ Some node → t.entries id ≡ [] → GivesList t id list.items (puts_new id list)
gives_list t id node list rules stands none = by_test (eqb (length list.items) 0) refl
  where
    by_test : (b : Bool) → eqb (length list.items) 0 ≡ b
        → GivesList t id list.items (cond b [] (PutEntries id list ∷ []))
    by_test true empty = record {
      of_objects = tt;
      each = tt;
      rules = rules;
      nodes = refl;
      listed = none ∙ sym (is_empty list.items empty);
      away = λ k other. refl;
      documents = refl;
      next = refl;
    }
    by_test false some = (let put = rules_put_entries t rules id node stands list in record {
      of_objects = (tt, tt);
      each = (put, tt);
      rules = put;
      nodes = refl;
      listed = if_same id id list.items (t.entries id) refl;
      away = λ k other. if_other k id list.items (t.entries k) other;
      documents = refl;
      next = refl;
    })
