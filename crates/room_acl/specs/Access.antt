-- Which bits a list allows: the first applying entry that names a bit decides it (RFC 8881, section 6.2.1), but for the
-- two that an object's owner always has (our own rule).
use Rattle.std.specs.Prelude.{◌≡◌, ℕ, ◌^◌, ◌<◌, Bool, true, false, not, ◌&&◌, ◌||◌, ◌⊎◌, List, ◌∷◌, ◌++◌, IsTrue}
use Rattle.std.specs.Prelude.{Option, None, Some, bit_and}
use Rattle.std.specs.List.{find, list_any, AllByRecursion}
use Rattle.std.specs.Str.{bytes_eq}
use Rattle.room_acl.specs.declared.who.Who.{Who}
use Rattle.room_acl.specs.declared.who.Who.TheVariants.{Owner, Group, Everyone, User, Members}
use Rattle.room_acl.specs.declared.subject.Standing.{Standing}
use Rattle.room_acl.specs.declared.access.Decision.{Decision}
use Rattle.room_acl.specs.declared.access.Decision.TheVariants.{Allowed, Denied}
use Rattle.room_acl.specs.Bits.{has_bit, inherit_only, named_bits, mask_of, owner_rights}
use Rattle.room_acl.specs.SubjectModel.{SubjectModel}
use Rattle.room_acl.specs.Entries.{EntryModel}

abbrev pub is_owner : SubjectModel → Standing → Bool
is_owner caller standing = bytes_eq standing.owner caller.name

abbrev pub is_member : SubjectModel → List ℕ → Bool
is_member caller group = list_any (bytes_eq group) caller.groups

-- whom an entry names (RFC 8881, section 6.2.1.5). A user and a group of one name are two principals
abbrev pub matches : SubjectModel → Standing → Who → Bool
matches caller standing Owner = is_owner caller standing
matches caller standing Group = is_member caller standing.group
matches caller standing Everyone = true
matches caller standing (User name) = bytes_eq name caller.name
matches caller standing (Members group) = is_member caller group

-- the entry counts on the object where it stands: INHERIT_ONLY is clear (RFC 8881, section 6.2.1.4.1)
abbrev pub applies : SubjectModel → Standing → EntryModel → Bool
applies caller standing entry = matches caller standing entry.who && not (inherit_only entry.flags)

abbrev pub decides : SubjectModel → Standing → ℕ → EntryModel → Bool
decides caller standing bit entry = applies caller standing entry && has_bit entry.mask bit

-- a bit that none names is denied
abbrev pub is_allow : Option EntryModel → Bool
is_allow None = false
is_allow (Some entry) = entry.allow

-- the first applying entry that names the bit is an allow entry
abbrev pub entries_allow : List EntryModel → SubjectModel → Standing → ℕ → Bool
entries_allow entries caller standing bit = is_allow (find (decides caller standing bit) entries)

-- the owner of an object may always read and write its list, whatever the list says (our own rule)
abbrev pub owner_may : SubjectModel → Standing → ℕ → Bool
owner_may caller standing bit = is_owner caller standing && has_bit owner_rights bit

-- the owner has two bits, and the entries decide each other one
abbrev pub allows_bit : List EntryModel → SubjectModel → Standing → ℕ → Bool
allows_bit entries caller standing bit = owner_may caller standing bit || entries_allow entries caller standing bit

-- the same in the standard's words: some applying allow entry names the bit, and no earlier applying entry names it
pub record EntriesAllow (entries : List EntryModel)
    (caller : SubjectModel) (standing : Standing) (bit : ℕ) : Type 0 where
  pub earlier : List EntryModel
  pub entry : EntryModel
  pub later : List EntryModel
  pub stands : entries ≡ earlier ++ entry ∷ later
  pub allow : IsTrue entry.allow
  pub applying : IsTrue (decides caller standing bit entry)
  pub first : AllByRecursion (λ other. IsTrue (not (decides caller standing bit other))) earlier

-- the bit is one of the owner's, or the entries allow it
abbrev pub AllowsBit : List EntryModel → SubjectModel → Standing → ℕ → Type 0
AllowsBit entries caller standing bit =
    IsTrue (owner_may caller standing bit) ⊎ EntriesAllow entries caller standing bit

-- a mask is allowed where each of its bits is
abbrev pub AllowsMask : List EntryModel → SubjectModel → Standing → ℕ → Type 0
AllowsMask entries caller standing wanted = (bit : ℕ)
    → IsTrue (has_bit wanted bit) → AllowsBit entries caller standing bit

-- the refused right is the lowest wanted one that is not allowed
pub record IsLowestRefused (entries : List EntryModel) (caller : SubjectModel)
    (standing : Standing) (wanted refused : ℕ) : Type 0 where
  pub bit : ℕ
  pub value : refused ≡ 2 ^ bit
  pub is_wanted : IsTrue (has_bit wanted bit)
  pub not_allowed : ¬ (AllowsBit entries caller standing bit)
  pub lowest : (lower : ℕ) → lower < bit → IsTrue (has_bit wanted lower) → AllowsBit entries caller standing lower

-- the lowest wanted bit that is not allowed
abbrev pub refused_bit : List EntryModel → SubjectModel → Standing → ℕ → Option ℕ
refused_bit entries caller standing wanted =
    find (λ bit. has_bit wanted bit && not (allows_bit entries caller standing bit)) named_bits

abbrev pub decision_by : Option ℕ → Decision
decision_by None = Allowed
decision_by (Some bit) = Denied (2 ^ bit)

abbrev pub decision : List EntryModel → SubjectModel → Standing → ℕ → Decision
decision entries caller standing wanted = decision_by (refused_bit entries caller standing wanted)

abbrev pub allowed_mask : List EntryModel → SubjectModel → Standing → ℕ
allowed_mask entries caller standing = mask_of (allows_bit entries caller standing)

-- those of the wanted rights that are allowed
abbrev pub allowed_of : List EntryModel → SubjectModel → Standing → ℕ → ℕ
allowed_of entries caller standing wanted = bit_and wanted (allowed_mask entries caller standing)
