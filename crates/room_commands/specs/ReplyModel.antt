-- What a reply says, as contracts see it (our own rule).
use Rattle.std.specs.Prelude.{ℕ, List, Option}
use Rattle.room_acl.specs.declared.subject.Kind.{Kind}
use Rattle.room_acl.specs.Entries.{EntryModel}
use Rattle.room_records.specs.Names.{Name, Path}
use Rattle.room_commands.specs.declared.reply.RefusalCode.{RefusalCode}
use Rattle.room_commands.specs.declared.reply.Reply.{Reply}
use Rattle.room_commands.specs.declared.reply.Reply.TheVariants as R

pub record Refusal : Type 0 where
  pub code : RefusalCode
  -- the path and the bit of an access that was denied
  pub place : Option (Path × ℕ)

-- what STAT answers. The size of a folder is the number of its children
pub record Attributes : Type 0 where
  pub aclflag : ℕ
  pub group : List ℕ
  pub kind : Kind
  pub owner : List ℕ
  pub size : ℕ

pub data ReplyModel : Type 0 where
  Done : ReplyModel
  Opened : ℕ → ReplyModel
  About : Attributes → ReplyModel
  Names : List (Name × Kind) → ReplyModel
  Size : ℕ → ReplyModel
  Bytes : List ℕ → ReplyModel
  Entries : ℕ → List EntryModel → ReplyModel
  Allowed : ℕ → ReplyModel
  NotDone : Refusal → ReplyModel

-- what a reply of the program says
abbrev pub reply_model : Reply → ReplyModel
reply_model R.Done = Done
reply_model (R.Opened slots) = Opened slots
reply_model (R.Stat flags g k o n) = About (record { aclflag = flags; group = g; kind = k; owner = o; size = n })
reply_model (R.Names pairs) = Names pairs.items
reply_model (R.Size n) = Size n
reply_model (R.Bytes b) = Bytes b.items
reply_model (R.Entries flags es) = Entries flags es.items
reply_model (R.Allowed mask) = Allowed mask
reply_model (R.Refused code place) = NotDone (record { code = code; place = place })

abbrev pub IsNotDone : ReplyModel → Type 0
IsNotDone (NotDone r) = Unit {0}
IsNotDone _ = ⊥
