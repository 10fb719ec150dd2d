use Rattle.room_records.proofs.Common.{◌≡◌, ℕ, ap, ◌∙◌, cond, [], None, Some, nat_cmp, ◌==◌, unwrap_or, option_map}
use Rattle.room_records.proofs.Common.{Records, held, node_in}
use Rattle.room_records.proofs.MemRecords.{read_put}
use Rattle.room_records.proofs.FreshRows.{free_of_none, rules_of, represents_of}
use Rattle.room_records.proofs.mem.MemShelf.fresh.Goals as goal

pub add-requires-clause-absent : goal.add-requires-clause-absent
add-requires-clause-absent c =
    c.reserve.ensures.same c.fresh_root-root.result.id
    ∙ ap (λ (r : Records). r.objects.node c.fresh_root-root.result.id) c.empty-shelf.ensures

pub returns-clause-rows : goal.returns-clause-rows
returns-clause-rows c =
    let none : (id : ℕ) → node_in c.reserve.new.self.nodes.slots id ≡ None =
    λ id. c.reserve.ensures.same id ∙ ap (λ (r : Records). r.objects.node id) c.empty-shelf.ensures in
    let nodes =
    c.add.ensures.nodes (free_of_none (node_in c.reserve.new.self.nodes.slots) c.fresh_root-root.result none) in
    let read = read_put (λ o. unwrap_or (option_map (λ e. e.items) o) []) _ _ _ _ c.put.ensures.held in
    let no_entries : (id : ℕ)
    → unwrap_or (option_map (λ e. e.items) (held nat_cmp c.reserve-2.new.self.slots id)) [] ≡ [] =
    λ id. rw (c.reserve-2.ensures.same id) (ap (λ (r : Records). r.objects.entries id) c.empty-shelf.ensures) in
    λ i. record {
      objects = record {
        node = λ id. (nodes id
            ∙ (λ j. cond (id == (c.fresh_root-root.ensures j).id) (Some (c.fresh_root-root.ensures j)) (none id j))) i;
        entries = λ id. (read id ∙ (λ j. cond (id == 1) (c.in_ok-entries.ensures j) (no_entries id j))) i;
        document = λ id. (c.empty-shelf.ensures i).objects.document id;
        next = (c.empty-shelf.ensures i).objects.next;
      };
      session = (c.empty-shelf.ensures i).session;
      slot = (c.empty-shelf.ensures i).slot;
    }

pub returns-clause-rules : goal.returns-clause-rules
returns-clause-rules c = rules_of _ c.args.owner c.args.group (returns-clause-rows c)

pub returns-clause-stands : goal.returns-clause-stands
returns-clause-stands c = represents_of _ c.args.owner c.args.group (returns-clause-rows c)
