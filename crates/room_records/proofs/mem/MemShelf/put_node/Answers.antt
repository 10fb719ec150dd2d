use Rattle.room_records.proofs.Common.{◌≢◌, refl, sym, ◌∙◌, None, Some, node_in, no_records}
use Rattle.room_records.proofs.RoomsMap.{none_is_some}
use Rattle.room_records.proofs.RulesKept.{if_same, if_other}
use Rattle.room_records.proofs.mem.MemShelf.put_node.Goals as goal

pub returns-clause-untouched : goal.returns-clause-untouched
returns-clause-untouched c =
    let node = c.args.node in record {
      node = λ id leave.
          let apart : id ≢ node.id = λ same. none_is_some node
          (sym (leave.0 (no_records 1)) ∙ if_same id node.id (Some node) None same) in
          c.add.ensures.others id apart ∙ c.take.ensures.nodes id
          ∙ if_other id node.id None (node_in c.args.self.now.nodes.nodes.slots id) apart;
      entries = λ id leave. refl;
      document = λ id leave. refl;
      next = λ leave. refl;
      session = λ sid leave. refl;
      slot = λ sid slot leave. refl;
      kept = λ sid slot low. refl;
    }
