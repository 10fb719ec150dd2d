use Rattle.room_records.proofs.Common.{◌≡◌, ap, sym, ◌∙◌, [], ◌∷◌, unwrap_or, option_map, Change, Records, apply_change}
use Rattle.room_records.proofs.Common.{Untouched, session_in, kept_in, mem_records}
use Rattle.room_records.proofs.MemRecords.{read_put}
use Rattle.room_records.proofs.Untouched.{untouched_by}
use Rattle.room_records.proofs.mem.MemShelf.apply.Goals as goal

-- a change that was made touches no other row
pub made_alone : (change is : Change) (old new : Records) → change ≡ is → new ≡ apply_change is old
    → Untouched (change ∷ []) old new
made_alone change is old new same made =
    untouched_by (change ∷ []) old new (made ∙ ap (λ c. apply_change c old) (sym same))

pub returns-in-PutEntries-clause-records : goal.returns-in-PutEntries-clause-records
returns-in-PutEntries-clause-records c = λ rules.
    let old = mem_records c.args.self.now in
    let read = read_put (λ o. unwrap_or (option_map (λ entries. entries.items) o) []) _ _ _ _ c.put.ensures.held in
    (λ i. record old { objects = record old.objects { entries = λ id. read id i } })
    ∙ ap (λ change. apply_change change old) (sym c.in-PutEntries.is)

pub returns-in-PutEntries-clause-untouched : goal.returns-in-PutEntries-clause-untouched
returns-in-PutEntries-clause-untouched c =
    let old = mem_records c.args.self.now in
    let read = read_put (λ o. unwrap_or (option_map (λ entries. entries.items) o) []) _ _ _ _ c.put.ensures.held in
    made_alone c.args.change _ old _ c.in-PutEntries.is
    (λ i. record old { objects = record old.objects { entries = λ id. read id i } })

pub returns-in-PutDoc-clause-records : goal.returns-in-PutDoc-clause-records
returns-in-PutDoc-clause-records c = λ rules.
    let old = mem_records c.args.self.now in
    let read = read_put (option_map (λ bytes. bytes.items)) _ _ _ _ c.put-in-PutDoc.ensures.held in
    (λ i. record old { objects = record old.objects { document = λ id. read id i } })
    ∙ ap (λ change. apply_change change old) (sym c.in-PutDoc.is)

pub returns-in-PutDoc-clause-untouched : goal.returns-in-PutDoc-clause-untouched
returns-in-PutDoc-clause-untouched c =
    let old = mem_records c.args.self.now in
    let read = read_put (option_map (λ bytes. bytes.items)) _ _ _ _ c.put-in-PutDoc.ensures.held in
    made_alone c.args.change _ old _ c.in-PutDoc.is
    (λ i. record old { objects = record old.objects { document = λ id. read id i } })

pub returns-in-DropNode-clause-untouched : goal.returns-in-DropNode-clause-untouched
returns-in-DropNode-clause-untouched c =
    made_alone c.args.change _ (mem_records c.args.self.now) _ c.in-DropNode.is c.drop_node.ensures.records

pub returns-in-PutSession-clause-untouched : goal.returns-in-PutSession-clause-untouched
returns-in-PutSession-clause-untouched c =
    let old = mem_records c.args.self.now in
    made_alone c.args.change _ old _ c.in-PutSession.is
    (λ i. record old {
      session = λ sid. c.put_session.ensures.sessions sid i;
      slot = kept_in (c.put_session.ensures.slots i);
    })

pub returns-in-DropSlots-clause-untouched : goal.returns-in-DropSlots-clause-untouched
returns-in-DropSlots-clause-untouched c =
    let old = mem_records c.args.self.now in
    made_alone c.args.change _ old _ c.in-DropSlots.is
    (λ i. record old {
      session = session_in (c.drop_slots.ensures.sessions i);
      slot = λ sid slot. c.drop_slots.ensures.slots sid slot i;
    })

pub returns-in-PutNext-clause-untouched : goal.returns-in-PutNext-clause-untouched
returns-in-PutNext-clause-untouched c =
    let old = mem_records c.args.self.now in
    made_alone c.args.change _ old _ c.in-PutNext.is
    (λ i. record old { objects = record old.objects { next = c.in-PutNext.next } })
