use Rattle.room_program.proofs.Common.{◌∙◌, sym}
use Rattle.room_program.proofs.left.taken_out.Goals as goal

pub returns : goal.returns
returns g c =
    let store = c.into_store.ensures in
    record {
      live = c.schema-live.ensures.live;
      quiet = store.quiet;
      sound = store.sound;
      was_numbered = λ clean. sym store.undone.numbered ∙ store.numbered clean;
      numbered = store.numbered;
    }
