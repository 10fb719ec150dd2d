-- The owner of an object can always read its list and set it.
use Rattle.room_commands.proofs.Common.{◌≡◌, ℕ, refl, ap, ◌∙◌, true, List, ◌∷◌, Option, None, Some, is_some, not}
use Rattle.room_commands.proofs.Common.{SubjectModel, EntryModel, read_acl, write_acl, decision, is_owner}
use Rattle.room_commands.proofs.Common.{own_entries_fault, Path, Object, Room, object_at, list_of, standing_of, NoEnt}
use Rattle.room_commands.proofs.Common.{Refusal, Entries, Done, own_entries_of_setlist, first_refusal, check_right}
use Rattle.room_commands.proofs.Common.{denied_at, walk, refuse_if, check_lawful, effect}
use Rattle.room_acl.specs.declared.access.Decision.TheVariants.{Allowed}
use Rattle.room_acl.proofs.OwnerRights.{owner_reads, owner_writes}
use Rattle.room_commands.specs.CommandModel as C
use Rattle.room_commands.proofs.RoomLaws.{reply_if_passed}
use Rattle.room_commands.proofs.Shorthands.{kind_of, or_no_object, right_on}

-- a check that passes leaves it to those behind it
pub pass : {found : Option Refusal} (a : Option Refusal) (others : List (Option Refusal)) → a ≡ None
    → first_refusal others ≡ found → first_refusal (a ∷ others) ≡ found
pass a others is rest = ap (λ x. first_refusal (x ∷ others)) is ∙ rest

module _ (room : Room) (caller : SubjectModel) (path : Path) (o : Object)
    (there : object_at room path ≡ Some o) (way : walk room caller path ≡ None) where
  right : (mask : ℕ) → decision (list_of room path) caller (standing_of o) mask ≡ Allowed
      → check_right room caller path mask ≡ None
  right mask allowed = ap (λ found. right_on room caller path mask found) there ∙ ap (λ d. denied_at path d) allowed

  exists : refuse_if (not (is_some (object_at room path))) NoEnt ≡ None
  exists = ap (λ found. refuse_if (not (is_some found)) NoEnt) there

  pub owner_gets : is_owner caller (standing_of o) ≡ true
      → (effect room caller (C.GetList path)).reply ≡ Entries o.aclflag (list_of room path)
  owner_gets owns =
      reply_if_passed room caller (C.GetList path) (pass (walk room caller path) _ way (pass _ _ exists
      (pass _ _ (right read_acl (owner_reads (list_of room path) caller (standing_of o) owns)) refl)))
      ∙ ap (λ found. Entries (or_no_object found).aclflag (list_of room path)) there

  pub owner_sets : (aclflag : ℕ) (entries : List EntryModel) → is_owner caller (standing_of o) ≡ true
      → own_entries_fault (own_entries_of_setlist path aclflag entries) o.kind ≡ None
      → (effect room caller (C.SetList aclflag entries path)).reply ≡ Done
  owner_sets aclflag entries owns lawful =
      reply_if_passed room caller (C.SetList aclflag entries path) (pass (walk room caller path) _ way (pass _ _ exists
      (pass _ _ (right write_acl (owner_writes (list_of room path) caller (standing_of o) owns))
      (pass _ _ (ap (λ found. check_lawful (own_entries_fault (own_entries_of_setlist path aclflag entries)
      (kind_of found))) there ∙ ap (λ fault. check_lawful fault) lawful) refl))))
