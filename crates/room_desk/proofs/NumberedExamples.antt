-- A worked example, computed by the definitions: a folder and a file in it have the numbers 5 and 9, since others were
-- removed, and get 2 and 3.
use Rattle.room_desk.proofs.Common.{◌≡◌, ◌≢◌, ◌≤◌, ◌<◌, ◌⊎◌, ℕ, refl, ap, sym, arith, inl, inr, [], Option, None, Some}
use Rattle.room_desk.proofs.Common.{IsSome, ◌==◌, codes, if◌then◌else◌, no_list_flags, Name, ObjectRecords}
use Rattle.room_desk.proofs.Common.{fresh_entries}
use Rattle.room_acl.specs.declared.subject.Kind.{Kind}
use Rattle.room_acl.specs.declared.subject.Kind.TheVariants.{File, Folder}
use Rattle.room_records.specs.declared.node.Node.{Node}
use Rattle.room_records.proofs.RoomsMap.{some_is}
use Rattle.room_records.proofs.RulesKept.{same_or_other}
use Rattle.room_desk.specs.NumberedAnew.{node_anew, AreNumberedAnew}

abbrev object : ℕ → Option ℕ → Option Name → Kind → Node
object id parent name kind = record {
  id = id;
  parent = parent;
  name = name;
  kind = kind;
  owner = codes "ann";
  group = codes "eng";
  aclflag = no_list_flags;
}

-- one value for the root, one for the folder, one for the file, and one for all other numbers
abbrev by_number : {X : Type 0} → ℕ → ℕ → X → X → X → X → ℕ → X
by_number folder file x y z other id =
    if id == 1 then x else (if id == folder then y else (if id == file then z else other))

abbrev rows : ℕ → ℕ → ℕ → ObjectRecords
rows folder file next = record {
  node = by_number folder file (Some (object 1 None None Folder))
      (Some (object folder (Some 1) (Some (codes "a")) Folder))
      (Some (object file (Some folder) (Some (codes "b")) File)) None;
  entries = by_number folder file fresh_entries [] fresh_entries [];
  document = by_number folder file None None (Some (codes "hi")) None;
  next = next;
}

abbrev old : ObjectRecords
old = rows 5 9 11

abbrev anew : ObjectRecords
anew = rows 2 3 4

abbrev to : ℕ → ℕ
to = by_number 5 9 1 2 3 0

the_file : node_anew to (object 9 (Some 5) (Some (codes "b")) File) ≡ object 3 (Some 2) (Some (codes "b")) File
the_file = refl

is_one_of_three : (id : ℕ) → IsSome (old.node id) → (id ≡ 1) ⊎ ((id ≡ 5) ⊎ (id ≡ 9))
is_one_of_three id there = grind arith

each : (P : ℕ → Type 0) → P 1 → P 5 → P 9 → (id : ℕ) → IsSome (old.node id) → P id
each P root folder file id there = elim (is_one_of_three id there) [
  | inl is ↦ rw is root
  | inr (inl is) ↦ rw is folder
  | inr (inr is) ↦ rw is file
]

is_there : (id : ℕ) (node : Node) → old.node id ≡ Some node → IsSome (old.node id)
is_there id node is = rw is refl

abbrev MovesAt : ℕ → Type 0
MovesAt id = (node : Node) → old.node id ≡ Some node → anew.node (to id) ≡ Some (node_anew to node)

moves : (was node : Node) → Some was ≡ Some node → Some (node_anew to was) ≡ Some (node_anew to node)
moves was node is = ap (λ n. Some (node_anew to n)) (some_is was node is)

no_row : (number : ℕ) → number ≢ 1 → number ≢ 2 → number ≢ 3
    → (anew.node number ≡ None) × (anew.entries number ≡ []) × (anew.document number ≡ None)
no_row number a b c = (grind arith, grind arith, grind arith)

pub numbered : AreNumberedAnew to old anew
numbered = record {
  root = refl;
  numbers = each (λ id. (1 ≤ to id) × (to id < 4)) (omega arith, omega arith) (omega arith, omega arith)
      (omega arith, omega arith);
  nodes = λ id node is. each MovesAt (moves (object 1 None None Folder))
      (moves (object 5 (Some 1) (Some (codes "a")) Folder)) (moves (object 9 (Some 5) (Some (codes "b")) File))
      id (is_there id node is) node is;
  entries = each (λ id. anew.entries (to id) ≡ old.entries id) refl refl refl;
  documents = each (λ id. anew.document (to id) ≡ old.document id) refl refl refl;
  others = λ number. elim (same_or_other number 1) [
    | inl is ↦ inl (1, refl, sym is)
    | inr a ↦ elim (same_or_other number 2) [
      | inl is ↦ inl (5, refl, sym is)
      | inr b ↦ elim (same_or_other number 3) [
        | inl is ↦ inl (9, refl, sym is)
        | inr c ↦ inr (no_row number a b c)
      ]
    ]
  ];
}
