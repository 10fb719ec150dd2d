-- What OPEN and CLOSE leave in the row of a session (our own rules).
use Rattle.std.specs.Prelude.{ℕ, true, false, List}
use Rattle.room_acl.specs.SubjectModel.{SubjectModel}
use Rattle.room_records.specs.declared.change.Change.TheVariants.{PutSession, DropSlots}
use Rattle.room_records.specs.declared.session.SessionRow.{SessionRow}
use Rattle.room_records.specs.Records.{Records}
use Rattle.room_records.specs.Changes.{apply_change}

-- the row of a session that opens
abbrev pub opened_row : SubjectModel → List ℕ → ℕ → SessionRow
opened_row caller sid slots = record { sid = sid; owner = caller.name; slots = slots; is_open = true }

-- the row of a session when it is closed
abbrev pub closed_row : SessionRow → SessionRow
closed_row row = record { sid = row.sid; owner = row.owner; slots = row.slots; is_open = false }

-- the records with the session's row closed, and without what its slots kept
abbrev pub with_session_ended : List ℕ → SessionRow → Records → Records
with_session_ended sid row r = apply_change (DropSlots sid) (apply_change (PutSession (closed_row row)) r)
