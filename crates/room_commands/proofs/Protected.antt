-- A list with the flag PROTECTED.
use Rattle.room_commands.proofs.Common.{◌≡◌, ℕ, refl, ap, sym, ◌∙◌, Bool, true, false, not, cond, [], ◌∷◌, ◌++◌, Some}
use Rattle.room_commands.proofs.Common.{append-nil, is_none, and_right, Decision, Denied, has_flag, auto_inherit_flag}
use Rattle.room_commands.proofs.Common.{protected_flag, follows, SubjectModel, decision, handed_down, Path, Object}
use Rattle.room_commands.proofs.Common.{Room, IsRoom, object_at, list_of, standing_of, ends, list_of_root}
use Rattle.room_commands.proofs.Common.{list_of_child, Rename, IsNotDone, denied_at, effect, may}
use Rattle.room_acl.specs.declared.access.Decision.TheVariants.{Allowed}
use Rattle.room_commands.proofs.Shorthands.{right_on}
use Rattle.room_commands.proofs.RoomLaws.{rename_moves}

follows_never : (aclflag : ℕ) → has_flag aclflag protected_flag ≡ true → follows aclflag ≡ false
follows_never aclflag is =
    and_right (has_flag aclflag auto_inherit_flag) (not (has_flag aclflag protected_flag)) (ap not is)

-- its list is its own entries alone
pub protected_list : (room : Room) (path : Path) (o : Object) → object_at room path ≡ Some o
    → has_flag o.aclflag protected_flag ≡ true → list_of room path ≡ o.own
protected_list room [] o there is = list_of_root room o there
protected_list room (first ∷ rest) o there is =
    let end = ends first rest in
    ap (list_of room) end.is
    ∙ list_of_child room end.folder end.name o (ap (object_at room) (sym end.is) ∙ there)
    ∙ ap (λ (follow : Bool). o.own ++ cond follow (handed_down (list_of room end.folder) o.kind) [])
    (follows_never o.aclflag is)
    ∙ append-nil o.own

is_denied : (path to : Path) (decided : Decision) → is_none (denied_at path decided) ≡ is_none (denied_at to decided)
is_denied path to Allowed = refl
is_denied path to (Denied bit) = refl

-- so the rights on it are the same wherever it stands
pub protected_anywhere : (room other : Room) (path to : Path) (o : Object) (caller : SubjectModel) (right : ℕ)
    → object_at room path ≡ Some o → object_at other to ≡ Some o → has_flag o.aclflag protected_flag ≡ true
    → may room caller path right ≡ may other caller to right
protected_anywhere room other path to o caller right there there_too is =
    ap (λ found. is_none (right_on room caller path right found)) there
    ∙ ap (λ entries. is_none (denied_at path (decision entries caller (standing_of o) right)))
    (protected_list room path o there is)
    ∙ is_denied path to (decision o.own caller (standing_of o) right)
    ∙ sym (ap (λ entries. is_none (denied_at to (decision entries caller (standing_of o) right)))
    (protected_list other to o there_too is))
    ∙ sym (ap (λ found. is_none (right_on other caller to right found)) there_too)

-- after a RENAME too, of it or of a folder above
pub protected_moved : (room : Room) (caller other : SubjectModel) (path to rest : Path) (o : Object) (right : ℕ)
    → IsRoom room → (IsNotDone (effect room other (Rename path to)).reply → ⊥) → object_at room (path ++ rest) ≡ Some o
    → has_flag o.aclflag protected_flag ≡ true
    → may (effect room other (Rename path to)).room caller (to ++ rest) right ≡ may room caller (path ++ rest) right
protected_moved room caller other path to rest o right lawful done there is =
    protected_anywhere (effect room other (Rename path to)).room room (to ++ rest) (path ++ rest) o caller right
    (rename_moves room other path to lawful done rest ∙ there) there is
