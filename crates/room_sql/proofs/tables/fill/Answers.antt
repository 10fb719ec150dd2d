use Rattle.room_sql.proofs.Common.{◌∙◌, ap, PutEntries, PutNext, stands_filled}
use Rattle.room_records.specs.Changes.{apply_change}
use Rattle.room_sql.proofs.Frames.{was_clean, ok_then, both}
use Rattle.room_sql.proofs.tables.fill.Goals as goal

pub returns-clause-ok : goal.returns-clause-ok
returns-clause-ok g c clean =
    let late = was_clean c.put_first_next.ensures.frame.crash clean in
    let early = was_clean c.put_new_entries.ensures.frame.crash late in
    ok_then c.put_first_next.result (c.put_first_next.ensures.ok clean) (λ all room sound.
    let one = (c.in_ok-put_new_node.ensures.ok early room).steps in
    let bare = rw c.requires at (c.in_ok-put_new_node.ensures.no_entries early room (λ _. sound)) in
    let two = (c.in_ok-put_new_entries.ensures.ok late one.room bare).steps in
    let three = all two.room in
    let last = three.0.steps in (
      record {
        room = last.room;
        schema = last.schema ∙ two.schema ∙ one.schema;
        records = last.records ∙ ap (apply_change (PutNext 2)) two.records
            ∙ ap (λ r. apply_change (PutNext 2) (apply_change (PutEntries 1 c.args.entries.now) r)) one.records;
        version = λ _. three.1;
        sound = λ s. last.sound (two.sound (one.sound s));
        lists = λ s. last.lists (two.lists (one.lists s));
      },
      three.1,
      three.2,
    ))

pub returns-clause-spares : goal.returns-clause-spares
returns-clause-spares g c clean =
    let late = was_clean c.put_first_next.ensures.frame.crash clean in
    let early = was_clean c.put_new_entries.ensures.frame.crash late in
    ok_then c.put_first_next.result (both c.put_first_next.result _ _ (c.put_first_next.ensures.spares clean)
    (c.put_first_next.ensures.sound clean)) (λ three before none was.
    stands_filled c.args.root.now c.args.entries.now _ _ _ _ before c.requires none was
    (c.in_ok-put_new_node.ensures.spares early) (c.in_ok-put_new_entries.ensures.spares late) three.0 three.1)
