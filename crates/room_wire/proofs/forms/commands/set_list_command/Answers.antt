use Rattle.room_wire.proofs.Common.{◌≡◌, true, sym, ◌∙◌, option_map, option_zip, view, has_parts}
use Rattle.room_commands.specs.CommandModel as C
use Rattle.room_wire.proofs.forms.commands.set_list_command.Goals as goal

pub returns : goal.returns
returns c =
    let four : has_parts 4 (view c.args.value.now) ≡ true = sym c.has_parts.ensures ∙ c.if-not-has_parts.false in
    rw four (c.set_list_by.ensures ∙ (λ i. option_map (λ (flags, (entries, path)). C.SetList flags entries path)
    (option_zip (c.list_flags_at-aclflag.ensures i) (option_zip (c.in_ok-entries.ensures i) (c.in_ok-path.ensures i)))))
