use Rattle.room_program.proofs.Common.{inl, inr, refl}
use Rattle.room_program.proofs.Again.{adopted_as}
use Rattle.room_program.proofs.opening.adopt.Goals as goal

pub returns-in-Ok : goal.returns-in-Ok
returns-in-Ok g c =
    let e = c.in-Ok.ensures in (
      adopted_as g.S.Store c.args.connection c.in-Ok.shelf c.new.result c.new.ensures.inner e.tables e.taken e.kept
          e.known c.new.ensures.true_of,
      refl,
    )

pub returns-in-Err-NotARoom-default : goal.returns-in-Err-NotARoom-default
returns-in-Err-NotARoom-default g c =
    let e = c.in-Err-NotARoom-default in
    let gone = c.let_go.ensures in (
      e.connection,
      record {
        fault = inl refl;
        spared = (gone.rests, e.ensures.unchanged, e.ensures.refused);
        no_room = λ is. ((e.ensures.left (inr e.field-0-0-is)).crash, e.ensures.no_version e.field-0-0-is);
      },
      gone.left,
    )

pub returns-in-Err-Memory-default : goal.returns-in-Err-Memory-default
returns-in-Err-Memory-default g c =
    let e = c.in-Err-Memory-default in
    let gone = c.let_go-in-Err-Memory-default.ensures in (
      e.connection,
      record {
        fault = inr (inr refl);
        spared = (gone.rests, e.ensures.unchanged, e.ensures.refused);
        no_room = λ is. absurd cc;
      },
      gone.left,
    )

pub returns-in-Err : goal.returns-in-Err
returns-in-Err g c =
    let e = c.in-Err in
    let gone = c.let_go-in-Err.ensures in (
      e.connection,
      record {
        fault = inr (inl refl);
        spared = (gone.rests, e.ensures.unchanged, e.ensures.refused);
        no_room = λ is. absurd cc;
      },
      gone.left,
    )
