use Rattle.room_records.proofs.Common.{◌≡◌, refl, sym, ◌∙◌, Option, Some, None, List, [], ◌∷◌, ◌++◌, append-nil}
use Rattle.room_records.proofs.Common.{filter_map, cons_option, option_map, Kind, Node, Name, listed}
use Rattle.std.proofs.lemmas.List.Elements.{filter_map-append}
use Rattle.room_records.proofs.node.listing.Goals as goal
use Rattle.room_records.proofs.node.listing.Goals.{in-Some-name+in_ok-push, in_default}

one_more : (before after : List (Name × Kind)) (nodes : List Node) (node : Node) (name : Option Name)
    → node.name ≡ name → before ≡ filter_map listed nodes
    → after ≡ before ++ cons_option (option_map (λ (n : Name). (n, node.kind)) name) []
    → after ≡ filter_map listed (nodes ++ node ∷ [])
one_more before after nodes node name is so pushed =
    pushed ∙ rw (so, filter_map-append listed nodes (node ∷ []), is) refl

pub loop-node-preserved : goal.loop-node-preserved
loop-node-preserved c = elim c.match-name.branch [
  | in-Some-name+in_ok-push w ↦
      one_more c.loop-node.names.items c.match-name.names.items c.loop-node.yielded c.in-Some.node
      (Some w.in-Some-name.name) w.in-Some-name.is c.loop-node.invariant (rw w.names-is w.in_ok-push.ensures.items)
  | in_default w ↦ one_more c.loop-node.names.items c.match-name.names.items c.loop-node.yielded c.in-Some.node
      None w.in_default.is c.loop-node.invariant (rw w.names-is (sym (append-nil c.loop-node.names.items)))
]
