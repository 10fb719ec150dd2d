-- What a list that is sent becomes (our own rule, in place of the procedures of RFC 8881, section 6.4.3.2).
use Rattle.std.specs.Prelude.{ℕ, Bool, false, ◌&&◌, List, [], ◌∷◌, Option, None, Some, if◌then◌else◌}
use Rattle.std.specs.List.{filter_map}
use Rattle.room_acl.specs.Bits.{is_inherited, follows}
use Rattle.room_acl.specs.Entries.{EntryModel}
pub use Rattle.room_acl.specs.Entries.{clear_inherited}
use Rattle.room_records.specs.Names.{Path}

-- whether an object at this path follows with these list flags. The root never does
abbrev pub follows_at : Path → ℕ → Bool
follows_at [] aclflag = false
follows_at (name ∷ path) aclflag = follows aclflag

-- an entry with the mark is dropped where the object follows, and else becomes an own entry
abbrev pub kept_entry : Bool → EntryModel → Option EntryModel
kept_entry follows entry = if follows && is_inherited entry.flags then None else Some (clear_inherited entry)

abbrev pub own_entries_of_setlist : Path → ℕ → List EntryModel → List EntryModel
own_entries_of_setlist path aclflag sent = filter_map (kept_entry (follows_at path aclflag)) sent
