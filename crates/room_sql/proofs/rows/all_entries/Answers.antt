use Rattle.room_sql.proofs.Common.{◌≡◌, ◌∙◌, ◌++◌, ◌<◌, ◌+◌, [], ◌∷◌, length, map, take, sym, ap, ap₂, arith, rules}
use Rattle.room_sql.proofs.Common.{take_more, map-append, entry_of, five_columns, number_in, HasEntryColumns, shown_as}
use Rattle.room_sql.proofs.Common.{IsReadBack, placed_push}
use Rattle.sqlite_keyed.proofs.ListLemmas.{all-append}
use Rattle.room_sql.proofs.rows.all_entries.Goals as goal

pub loop-row-preserved : goal.loop-row-preserved
loop-row-preserved c =
    let k = c.loop-row.row-index in
    let rows = c.args.rows.now in
    let es = c.loop-row.entries.items in
    let row = c.row-item.result in
    let e = c.in_ok-entry_of.field-0 in
    let inv = c.loop-row.invariant in
    let within : k < length rows = omega arith in
    let more : take (k + 1) rows ≡ take k rows ++ row ∷ [] =
    take_more rows k row within ∙ ap (λ x. take k rows ++ x ∷ []) (sym c.row-item.is) in
    record {
      value = c.in_ok-push.ensures.items
          ∙ ap₂ (λ l x. l ++ x ∷ []) inv.value c.in_ok-entry_of.ensures.value
          ∙ sym (map-append entry_of (take k rows) (row ∷ [])) ∙ ap (map entry_of) (sym more);
      typed = rw more
          (all-append HasEntryColumns (take k rows) (row ∷ []) inv.typed (c.in_ok-entry_of.ensures.typed, tt));
      shown = λ is.
          let next = c.is_next-is_placed.ensures is in
          let place : c.in_ok-number_at.field-0 ≡ 0 + length es = search rules in
          let one : five_columns row ≡ shown_as (0 + length es) e = c.in_ok-entry_of.ensures.shown
          ∙ ap (λ v. shown_as (number_in v) e) c.in_ok-number_at.ensures.value ∙ ap (λ n. shown_as n e) place in
          rw (more, c.in_ok-push.ensures.items) (map-append five_columns (take k rows) (row ∷ [])
          ∙ ap₂ ◌++◌ (inv.shown next.0) (ap (λ r. r ∷ []) one) ∙ sym (placed_push 0 es e));
      back = rw c.in_ok-push.ensures.items
          (all-append IsReadBack es (e ∷ []) inv.back (c.in_ok-entry_of.ensures.back, tt));
    }
