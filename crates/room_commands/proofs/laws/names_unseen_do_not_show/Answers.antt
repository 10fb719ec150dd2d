use Rattle.room_commands.proofs.Common.{sym, or_left, or_right, paths_of, effect}
use Rattle.room_commands.proofs.NamesUnseen.{NameUnseen, shown_unlisted, shown_unnamed, answered_unnamed}
use Rattle.room_commands.proofs.laws.names_unseen_do_not_show.Goals as goal

pub returns-clause-unlisted : goal.returns-clause-unlisted
returns-clause-unlisted c = λ room caller other command path lawful is_room.
    shown_unlisted room caller other command lawful is_room path

pub returns-clause-elsewhere : goal.returns-clause-elsewhere
returns-clause-elsewhere c = λ room caller other command lawful is_room unlisted_p unlisted_t depth numbers.
    let name_p : NameUnseen caller room (effect room other command).room (paths_of command).0 =
    record { unlisted = unlisted_p; depth = λ front above. depth front (or_left _ _ above) } in
    let name_t : NameUnseen caller room (effect room other command).room (paths_of command).1 =
    record { unlisted = unlisted_t; depth = λ front above. depth front (or_right _ _ above) } in (
      λ path. shown_unnamed room caller other command lawful is_room path name_p name_t numbers,
      λ far_p far_t path. sym (shown_unnamed room caller other command lawful is_room path name_p name_t numbers
          (λ below. far_p, λ below. far_t)),
      λ own lawful_own folders off_p off_t. answered_unnamed room caller other command lawful is_room own lawful_own
          name_p name_t numbers folders off_p off_t,
    )
