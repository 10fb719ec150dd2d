-- What a shelf keeps: rows by their keys.
use Rattle.std.specs.Prelude.{◌≡◌, ℕ, List, Option, Some}
use Rattle.room_acl.specs.Entries.{EntryModel}
use Rattle.room_slots.specs.KeptModel.{KeptModel}
use Rattle.room_records.specs.declared.node.Node.{Node}
use Rattle.room_records.specs.declared.session.SessionRow.{SessionRow}

abbrev pub root_number : ℕ
root_number = 1

pub record ObjectRecords : Type 0 where
  pub node : ℕ → Option Node
  pub entries : ℕ → List EntryModel
  pub document : ℕ → Option (List ℕ)
  pub next : ℕ

pub record Records : Type 0 where
  pub objects : ObjectRecords
  pub session : List ℕ → Option SessionRow
  pub slot : List ℕ → ℕ → Option KeptModel

-- the node is in this folder
pub record IsChild (t : ObjectRecords) (parent : ℕ) (node : Node) : Type 0 where
  pub stands : t.node node.id ≡ Some node
  pub inside : node.parent ≡ Some parent
