use Rattle.room_records.proofs.Common.{◌≡◌, sym, ◌∙◌, None, Some, IsChildNamed, node_in, id_at}
use Rattle.room_records.proofs.Children.{named_child}
use Rattle.room_records.proofs.Options.{ok_of_value}
use Rattle.room_records.proofs.NodePlaces.{index_of}
use Rattle.room_records.proofs.mem.nodes.NodeIndex.child.Goals as goal

pub returns-in-Some : goal.returns-in-Some
returns-in-Some c = λ t same.
    let self = c.args.self.now in
    let parent = c.args.parent in
    let name = c.args.name.now in
    let id = c.in-Some.id.now in
    let held : id_at self.places.slots (parent, Some name) ≡ Some id =
    (λ i. id_at self.places.slots (sym c.from.ensures i, Some (sym c.in_ok-clone.ensures i))) ∙ sym c.in-Some.ensures in
    let node : t.node id ≡ node_in self.nodes.slots id = λ i. same i id in
    ok_of_value (IsChildNamed t parent name) (node_in self.nodes.slots id)
    (rw (held, node) at (named_child t (id_at self.places.slots) (rw same (index_of self)) parent name))
    c.node.result c.node.ensures

pub returns : goal.returns
returns c = λ t same.
    let self = c.args.self.now in
    let parent = c.args.parent in
    let name = c.args.name.now in
    let held : id_at self.places.slots (parent, Some name) ≡ None =
    (λ i. id_at self.places.slots (sym c.from.ensures i, Some (sym c.in_ok-clone.ensures i))) ∙ sym c.in-None.ensures in
    rw held at (named_child t (id_at self.places.slots) (rw same (index_of self)) parent name)
