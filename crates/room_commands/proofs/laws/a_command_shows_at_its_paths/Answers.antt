use Rattle.room_commands.proofs.Elsewhere.{shown_above, shown_higher, shown_aside}
use Rattle.room_commands.proofs.laws.a_command_shows_at_its_paths.Goals as goal

pub returns-clause-above : goal.returns-clause-above
returns-clause-above c = λ room caller other command path lawful is_room off.
    shown_above room caller other command lawful is_room path off

pub returns-clause-higher : goal.returns-clause-higher
returns-clause-higher c = λ room caller other command path lawful is_room off holds.
    shown_higher room caller other command lawful is_room path off holds

pub returns-clause-aside : goal.returns-clause-aside
returns-clause-aside c = λ room caller other command path lawful is_room off above.
    shown_aside room caller other command lawful is_room path off above
