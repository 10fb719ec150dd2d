-- What is taken from the front of the bytes.
use Rattle.std.specs.Prelude.{◌≡◌, ℕ, ◌<◌, ◌≤◌, ◌⊎◌, List, map, length, take, drop, Some}
use Rattle.httparse.specs.Grammar.{RequestHead, print_request, ReadsRequest, HasNoRequest, MayBecomeRequest}
use Rattle.httparse.specs.Spans.{header_bytes}
use Rattle.room_wire.specs.declared.messages.message.Message.{Message}
use Rattle.room_wire.specs.declared.messages.message.Take.{Take}
use Rattle.room_wire.specs.declared.messages.message.Take.TheVariants.{Whole, More, Bad}
use Rattle.room_wire.specs.Messages.Limits.{max_fields, max_head, max_message}
use Rattle.room_wire.specs.Messages.MessageModel.{MessageModel, Reads, NoMessage, NeverMessage, print_message}
use Rattle.room_wire.specs.Messages.MessageModel.{fields_of, body_after}

-- the parts that were lent are those of the message
pub record Shows (message : Message) (m : MessageModel) : Type 0 where
  pub method : message.method.now ≡ m.head.method
  pub target : message.target.now ≡ m.head.target
  pub fields : map (header_bytes message.window.now) (take message.count message.spans) ≡ fields_of m.head
  pub body : message.body.now ≡ m.body
  pub minor : message.minor ≡ m.head.minor
  pub size : message.size ≡ length (print_message m)

-- the head is not whole, in fewer bytes than its limit, and `httparse` waits for the rest of it
pub record LacksHead (bytes : List ℕ) : Type 0 where
  pub short : length bytes < max_head
  pub not_whole : HasNoRequest bytes
  pub unfinished : MayBecomeRequest bytes

-- the head is whole and within the limits, its fields state the length of a body, and fewer bytes follow
pub record LacksBody (bytes : List ℕ) : Type 0 where
  pub head : RequestHead
  pub rest : List ℕ
  pub reads : ReadsRequest bytes head rest
  pub head_fits : length (print_request head) ≤ max_head
  pub few_fields : length head.fields ≤ max_fields
  pub lacks : (size : ℕ) × (body_after head ≡ Some size) × (length rest < size)

-- `Whole`: the message at the front. `More`: there is none yet, fewer bytes have come than the longest message has, and
-- what is lacking. The fields of a head that is not whole are not counted, so more of them than a message may have can
-- stand there already. `Bad`: none can come
abbrev pub Takes : List ℕ → Take → Type 0
Takes bytes (Whole message) = (m : MessageModel) × Reads bytes m (drop message.size bytes) × Shows message m
Takes bytes More = NoMessage bytes × (length bytes < max_message) × (LacksHead bytes ⊎ LacksBody bytes)
Takes bytes Bad = NeverMessage bytes × (0 < length bytes)
