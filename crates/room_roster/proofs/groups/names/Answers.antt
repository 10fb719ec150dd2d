use Rattle.std.proofs.Common.{◌≡◌, ◌+◌, ◌<◌, List, ap, ◌∙◌, drop, get_or, length, arith, refl, Err, ℕ, [], ◌∷◌}
use Rattle.std.proofs.lemmas.Grind.{common_steps}
use Rattle.std.proofs.lemmas.List.{drop_all}
use Rattle.toml.specs.Data.{item, no_items}
use Rattle.toml.specs.View.{view, items_view}
use Rattle.toml.specs.declared.value.Value.{Value}
use Rattle.toml.proofs.Views.{items_view-drop}
use Rattle.room_acl.specs.Principals.{IsPrincipal}
use Rattle.room_records.proofs.Lists.{all_append}
use Rattle.room_roster.specs.declared.fault.RosterFault.TheVariants.{Bad}
use Rattle.room_roster.specs.Rosters.{list_of_names}
use Rattle.room_roster.proofs.NameLists.{reads_all, reads_more, next_name}
use Rattle.room_roster.proofs.groups.names.Goals as goal

next_item : (vs : List Value) (i : ℕ) (v : Value) → i < length vs → get_or vs i v ≡ v
    → items_view (drop i vs) ≡ item (view v) (items_view (drop (i + 1) vs))
next_item vs i v below at = items_view-drop vs i v below ∙ ap (λ x. item (view x) (items_view (drop (i + 1) vs))) at

pub returns-in_err-group-clause-bad : goal.returns-in_err-group-clause-bad
returns-in_err-group-clause-bad c is names are all =
    let vs = c.args.values.now in
    let i = c.loop-value.value-index in
    let v = c.value-item.result in
    let here = next_item vs i v c.loop-value-test.true (grind (arith, common_steps)) in
    let next = next_name IsPrincipal (items_view vs) (items_view (drop (i + 1) vs))
    c.loop-value.names.items names (view v) (rw here at c.loop-value.invariant.0) are all in
    let bad : c.group.result ≡ Err Bad = grind (arith, common_steps) in
    c.group.ensures.bad bad next.0 next.1 next.2

pub loop-value-preserved : goal.loop-value-preserved
loop-value-preserved c =
    let vs = c.args.values.now in
    let i = c.loop-value.value-index in
    let v = c.value-item.result in
    let done = c.loop-value.names.items in
    let here = next_item vs i v c.loop-value-test.true (grind (arith, common_steps)) in
    let (is, lawful) = c.in_ok-group.ensures.ok in
    rw c.in_ok-push.ensures.items (
      reads_more (items_view vs) (items_view (drop (i + 1) vs)) done c.in_ok-group.field-0 (view v) is
          (rw here at c.loop-value.invariant.0),
      all_append IsPrincipal done (c.in_ok-group.field-0 ∷ []) c.loop-value.invariant.1 (lawful, tt),
    )

pub returns-clause-ok : goal.returns-clause-ok
returns-clause-ok c =
    let vs = c.args.values.now in
    let over : items_view (drop c.loop-value.value-index vs) ≡ no_items =
    rw (drop_all c.loop-value.value-index vs c.loop-value-test.false) refl in (
      reads_all list_of_names (items_view vs) c.loop-value.names.items (rw over at c.loop-value.invariant.0),
      c.loop-value.invariant.1,
    )
