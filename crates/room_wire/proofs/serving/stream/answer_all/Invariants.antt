use Rattle.room_wire.proofs.Common.{◌≡◌, ◌+◌, ◌-◌, ◌^◌, ℕ, List, min, length, Appends, MessageModel, Outputs, Follows}
use Rattle.room_wire.proofs.serving.stream.answer_all.Given as goal

abbrev pub invariant-rounds : goal.invariant-rounds
invariant-rounds g l =
    (ms : List MessageModel) × (out : List ℕ) × Follows l.fn.input ms l.input
    × Outputs (g.S.Service.may_answer l.context) l.fn.service ms out l.service
    × Appends (g.W.Write.contents l.fn.writer) (g.W.Write.contents l.writer) out
    × (l.count ≡ min (l.fn.start + length ms) (2 ^ 64 - 1))

abbrev pub decreases-rounds : goal.decreases-rounds
decreases-rounds g l = length l.input
