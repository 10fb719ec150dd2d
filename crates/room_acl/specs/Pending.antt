-- A decision over entries that come one at a time, as contracts see it, and what it answers where these are still to
-- come.
use Rattle.std.specs.Prelude.{ℕ, Bool, not, ◌&&◌, ◌||◌, List}
use Rattle.std.specs.List.{find}
use Rattle.room_acl.specs.declared.access.Decision.{Decision}
use Rattle.room_acl.specs.declared.subject.Standing.{Standing}
use Rattle.room_acl.specs.Bits.{has_bit, named_bits}
use Rattle.room_acl.specs.SubjectModel.{SubjectModel}
use Rattle.room_acl.specs.Entries.{EntryModel}
use Rattle.room_acl.specs.Access.{entries_allow, decision_by}

pub record PendingModel : Type 0 where
  -- the wanted bits that no entry has decided, and those that one has denied
  pub left : ℕ
  pub denied : ℕ

-- a bit is refused that was denied, or that is left and not allowed by the entries still to come. What the owner
-- always has is never left
abbrev pub refuses_with : List EntryModel → SubjectModel → Standing → PendingModel → ℕ → Bool
refuses_with entries caller standing pending bit =
    has_bit pending.denied bit || (has_bit pending.left bit && not (entries_allow entries caller standing bit))

-- the decision where these entries are still to come
abbrev pub decision_with : List EntryModel → SubjectModel → Standing → PendingModel → Decision
decision_with entries caller standing pending =
    decision_by (find (refuses_with entries caller standing pending) named_bits)
