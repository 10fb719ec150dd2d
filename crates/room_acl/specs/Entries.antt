-- An entry of an access list, as contracts see it.
use Rattle.std.specs.Prelude.{ℕ, Bool, true, not, List, Option, None, Some, if◌then◌else◌, IsTrue, codes}
use Rattle.std.specs.Str.{bytes_eq}
use Rattle.room_acl.specs.declared.who.Who.{Who}
use Rattle.room_acl.specs.declared.who.Who.TheVariants.{Owner, Group, Everyone, User, Members}
use Rattle.room_acl.specs.Bits.{identifier_group, without_inherited, IsFlags, IsMask}
use Rattle.room_acl.specs.Principals.{is_principal}

-- type ALLOW or DENY, flags, mask and who (RFC 8881, sections 6.2.1.1 and 6.2.1.3 to 6.2.1.5)
pub record EntryModel : Type 0 where
  pub allow : Bool
  pub flags : ℕ
  pub mask : ℕ
  pub who : Who

-- 0 is ALLOW and 1 is DENY (RFC 8881, section 6.2.1.1)
abbrev pub type_of : Bool → ℕ
type_of allow = if allow then 0 else 1

abbrev pub clear_inherited : EntryModel → EntryModel
clear_inherited entry = record entry { flags = without_inherited entry.flags }

-- IDENTIFIER_GROUP tells a group's name from a user's. Beside the three
-- special names it is ignored, and kept (RFC 8881, section 6.2.1.4)
abbrev pub names_its_kind : ℕ → Who → Bool
names_its_kind flags Owner = true
names_its_kind flags Group = true
names_its_kind flags Everyone = true
names_its_kind flags (User name) = not (identifier_group flags)
names_its_kind flags (Members name) = identifier_group flags

-- the special names (RFC 8881, section 6.2.1.5)
abbrev pub owner_text : List ℕ
owner_text = codes "OWNER@"

abbrev pub group_text : List ℕ
group_text = codes "GROUP@"

abbrev pub everyone_text : List ℕ
everyone_text = codes "EVERYONE@"

-- whom an entry names, as a text: a special name, or a principal's own
abbrev pub who_text : Who → List ℕ
who_text Owner = owner_text
who_text Group = group_text
who_text Everyone = everyone_text
who_text (User name) = name
who_text (Members name) = name

-- whom a text names beside these flags, where it is known to name somebody
abbrev pub who_of : ℕ → List ℕ → Who
who_of flags text =
    if bytes_eq text owner_text then Owner
    else (if bytes_eq text group_text then Group
    else (if bytes_eq text everyone_text then Everyone
    else (if identifier_group flags then Members text else User text)))

-- a special name is one, and else it is a principal's
abbrev pub is_who : Who → Bool
is_who (User name) = is_principal name
is_who (Members name) = is_principal name
is_who special = true

abbrev pub IsWho : Who → Type 0
IsWho who = IsTrue (is_who who)

-- whom a text names beside these flags, where it names somebody
abbrev pub who_from : ℕ → List ℕ → Option Who
who_from flags text = if is_who (who_of flags text) then Some (who_of flags text) else None

pub record IsEntry (entry : EntryModel) : Type 0 where
  pub flags : IsFlags entry.flags
  pub mask : IsMask entry.mask
  pub who : IsWho entry.who
  pub kind : IsTrue (names_its_kind entry.flags entry.who)
