use Rattle.room_program.proofs.Common.{◌≡◌, false, has_a_table}
use Rattle.std.proofs.lemmas.Bool.{false_from_ne_true}
use Rattle.room_program.proofs.making.make_room.Goals as goal

pub returns-in-Ok : goal.returns-in-Ok
returns-in-Ok g c =
    let e = c.in-Ok.ensures in
    let closed = rw c.into_connection.ensures.same at c.give_up.ensures.given_up in
    (c.in-Ok.shelf.conn, (e.absent, c.in-Ok.shelf.rests, e.fresh, e.made, e.beside), closed)

pub returns-in-Err-RoomExists-default : goal.returns-in-Err-RoomExists-default
returns-in-Err-RoomExists-default g c =
    let e = c.in-Err-RoomExists-default in
    let some = e.ensures.exists e.field-0-0-is in
    let gone = c.let_go.ensures in
    (e.connection, (some, (e.ensures.taken some).1, gone.rests), gone.left)

pub returns-in-Err-Memory-default : goal.returns-in-Err-Memory-default
returns-in-Err-Memory-default g c =
    let e = c.in-Err-Memory-default in
    let none : has_a_table c.args.connection.schema ≡ false = false_from_ne_true _ (λ some.
    let one = e.field-0-0-is in let other = (e.ensures.taken some).0 in cc) in
    let gone = c.let_go-in-Err-Memory-default.ensures in
    (e.connection, (none, (gone.rests, e.ensures.unchanged, e.ensures.refused)), gone.left)

pub returns-in-Err-Store-default : goal.returns-in-Err-Store-default
returns-in-Err-Store-default g c =
    let e = c.in-Err-Store-default in
    let none : has_a_table c.args.connection.schema ≡ false = false_from_ne_true _ (λ some.
    let one = e.field-0-0-is in let other = (e.ensures.taken some).0 in cc) in
    let gone = c.let_go-in-Err-Store-default.ensures in
    (e.connection, (none, (gone.rests, e.ensures.unchanged, e.ensures.refused)), gone.left)
