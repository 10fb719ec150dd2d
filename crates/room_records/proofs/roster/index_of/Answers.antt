use Rattle.room_records.proofs.Common.{◌≡◌, ◌<◌, ℕ, List, refl, sym, take, drop, get_or, suc, ◌∷◌, drop-cons, length}
use Rattle.room_records.proofs.Common.{length-take, arith, Less, Equal, take-append-drop, SubjectModel, name_cmp}
use Rattle.room_records.proofs.roster.index_of.Goals as goal

from_place : (users : List SubjectModel) (place : ℕ) (user : SubjectModel) → user ≡ get_or users place user
    → place < length users → drop place users ≡ user ∷ drop (suc place) users
from_place users place user here below = rw (drop-cons users place user below, ← here) refl

pub returns-in-Equal : goal.returns-in-Equal
returns-in-Equal c =
    let users = c.args.users.now in
    let place = c.loop-place.place in
    let user = c.index-users-place.result in
    let equal : name_cmp c.args.name.now user.name ≡ Equal = cc in (
      take place users,
      user,
      drop (suc place) users,
      rw (← from_place users place user c.index-users-place.is (omega arith)) (sym (take-append-drop place users)),
      omega (arith, length-take place users),
      c.loop-place.invariant,
      equal,
    )

pub returns-in-Less : goal.returns-in-Less
returns-in-Less c =
    let users = c.args.users.now in
    let place = c.loop-place.place in
    let user = c.index-users-place.result in
    let less : name_cmp c.args.name.now user.name ≡ Less = cc in (
      take place users,
      drop place users,
      sym (take-append-drop place users),
      omega (arith, length-take place users),
      c.loop-place.invariant,
      rw (from_place users place user c.index-users-place.is (omega arith)) less,
    )
