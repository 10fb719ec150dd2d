use Rattle.room_wire.proofs.Common.{◌≡◌, ◌-◌, ◌^◌, ◌<◌, ◌≤◌, ℕ, List, min, length, Appends, Consumes, max_message}
use Rattle.room_wire.proofs.Common.{MessageModel, NoMessage, Outputs, Follows}
use Rattle.room_wire.proofs.serving.stream.serve_with.Given as goal

-- the bytes read, the messages at their front, and what was written
abbrev pub invariant-reads : goal.invariant-reads
invariant-reads g l = record {
  bytes : List ℕ;
  ms : List MessageModel;
  out : List ℕ;
  follows : Follows bytes ms l.input;
  outputs : Outputs (g.S.Service.may_answer l.context) l.fn.service ms out l.service;
  no_message : NoMessage l.input;
  short : length l.input < max_message;
  consumes : Consumes (g.R.Read.remaining l.fn.reader) (g.R.Read.remaining l.reader) bytes;
  appends : Appends (g.W.Write.contents l.fn.writer) (g.W.Write.contents l.writer) out;
  counted : l.count ≡ min (length ms) (2 ^ 64 - 1);
  done : l.done ≤ length bytes;
}
