use Rattle.room_sql.proofs.Common.{◌≡◌, ℕ, ◌+◌, ◌<◌, length, List, [], ◌∷◌, ◌++◌, Option, None, Some, take, get_or, sym}
use Rattle.room_sql.proofs.Common.{ap, ◌∙◌, append-nil, arith, filter_map, cons_option, take_more, Row, listed_of}
use Rattle.std.proofs.lemmas.List.Elements.{filter_map-append}
use Rattle.room_acl.specs.declared.subject.Kind.{Kind}
use Rattle.room_records.specs.Names.{Name}
use Rattle.room_sql.proofs.rows.all_names.Goals as goal
use Rattle.room_sql.proofs.rows.all_names.Goals.{in-Some+in_ok-push, in_default}

-- one row more
more_listed : (before after : List (Name × Kind)) (rows : List Row) (i : ℕ) (row : Row) (o : Option (Name × Kind))
    → i < length rows → row ≡ get_or rows i row → o ≡ listed_of row → before ≡ filter_map listed_of (take i rows)
    → after ≡ before ++ cons_option o [] → after ≡ filter_map listed_of (take (i + 1) rows)
more_listed before after rows i row o below at is so pushed =
    let whole : take (i + 1) rows ≡ take i rows ++ row ∷ [] =
    take_more rows i row below ∙ ap (λ (r : Row). take i rows ++ r ∷ []) (sym at) in
    pushed ∙ (λ j. so j ++ cons_option (is j) [])
    ∙ sym (filter_map-append listed_of (take i rows) (row ∷ [])) ∙ ap (filter_map listed_of) (sym whole)

pub loop-row-preserved : goal.loop-row-preserved
loop-row-preserved c = elim c.match-branch-2.branch [
  | in-Some+in_ok-push w ↦
      more_listed c.loop-row.names.items c.match-branch-2.names.items c.args.rows.now c.loop-row.row-index
      c.row-item.result (Some w.in-Some.listed) (omega arith) c.row-item.is
      (sym w.in-Some.is ∙ c.in_ok-listed.ensures.value) c.loop-row.invariant
      (rw w.names-is w.in_ok-push.ensures.items)
  | in_default w ↦
      more_listed c.loop-row.names.items c.match-branch-2.names.items c.args.rows.now c.loop-row.row-index
      c.row-item.result None (omega arith) c.row-item.is
      (sym w.in_default.is ∙ c.in_ok-listed.ensures.value) c.loop-row.invariant
      (rw w.names-is (sym (append-nil c.loop-row.names.items)))
]
