-- Replies that tell of a found object.
use Rattle.room_tree.proofs.Common.{common_steps, arith, ◌≡◌, ℕ, refl, ap, sym, ◌∙◌, List, [], ◌∷◌, map, bit_and}
use Rattle.room_tree.proofs.Common.{AllByRecursion, filter_map, cons_option, IsMask, EntryModel, SubjectModel}
use Rattle.room_tree.proofs.Common.{allowed_mask, Node, Name, Path, ObjectRecords, IsChild, Room, list_of, standing_of}
use Rattle.room_tree.proofs.Common.{listed, ObjectRules, pair_of, child_named, LoadedObject, ReplyModel, About, Entries}
use Rattle.room_tree.proofs.Common.{Allowed, object_or_default, attributes_of, size_of, or_no_object, IsLoaded, node_of}
use Rattle.std.specs.Option.{option_map}
use Rattle.std.proofs.lemmas.Nat.{and_assoc, and_comm}
use Rattle.room_tree.proofs.Checking.{there}

abbrev pub stat_of : Node → ℕ → ReplyModel
stat_of node size =
    About (record { aclflag = node.aclflag; group = node.group; kind = node.kind; owner = node.owner; size = size })

module _ {t : ObjectRecords} {room : Room} {path : Path} {loaded : LoadedObject}
    (found : IsLoaded t room path loaded) where
  pub object_is : object_or_default room path ≡ found.object
  object_is = ap or_no_object (there found)

  pub stat_reply : (node : Node) (size : ℕ) → node ≡ node_of loaded → size ≡ size_of room path loaded.kind
      → stat_of node size ≡ About (attributes_of room path (object_or_default room path))
  stat_reply node size is sized = grind (arith, common_steps)

  pub entries_reply : (list : List EntryModel) → list ≡ list_of room path → Entries loaded.aclflag list
      ≡ Entries (object_or_default room path).aclflag (list_of room path)
  entries_reply list is = grind (arith, common_steps)

  pub access_reply : (list : List EntryModel) → list ≡ list_of room path → (caller : SubjectModel) (mask : ℕ)
      → Allowed (bit_and mask (allowed_mask list caller loaded.standing))
      ≡ Allowed (bit_and mask (allowed_mask (list_of room path) caller (standing_of (object_or_default room path))))
  access_reply list is caller mask =
      let shows = found.is_there.shows in
      let shown : Allowed (bit_and mask (allowed_mask list caller loaded.standing))
      ≡ Allowed (bit_and mask (allowed_mask (list_of room path) caller (standing_of found.object))) =
      (λ i. Allowed (bit_and mask
      (allowed_mask (is i) caller (record { owner = shows.owner i; group = shows.group i })))) in
      shown ∙ ap (λ o. Allowed (bit_and mask (allowed_mask (list_of room path) caller (standing_of o)))) (sym object_is)

pub common_is_mask : (a b : ℕ) → IsMask a → IsMask (bit_and a b)
common_is_mask a b mask = grind (arith, common_steps, and_assoc, and_comm)

-- the nodes in a folder have names
pub all_listed : (t : ObjectRecords) (rules : ObjectRules t) (id : ℕ) (nodes : List Node)
    → AllByRecursion (IsChild t id) nodes → filter_map listed nodes ≡ map pair_of nodes
all_listed t rules id [] all = refl
all_listed t rules id (node ∷ nodes) all =
    ap (λ name. cons_option (option_map (λ (n : Name). (n, node.kind)) name) (filter_map listed nodes))
    (child_named t rules id node all.0)
    ∙ ap (λ rest. pair_of node ∷ rest) (all_listed t rules id nodes all.1)
