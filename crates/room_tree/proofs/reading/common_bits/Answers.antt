use Rattle.room_tree.proofs.Common.{IsMask}
use Rattle.room_tree.proofs.Replies.{common_is_mask}
use Rattle.room_records.proofs.Options.{none_is_not_some}
use Rattle.room_tree.proofs.reading.common_bits.Goals as goal

pub unreachable-requires : goal.unreachable-requires
unreachable-requires c =
    let a : IsMask c.bits.result = rw c.bits.ensures.value c.bits.ensures.named in
    none_is_not_some c.new.result c.in-None.is (c.new.ensures.named.1 (common_is_mask c.bits.result c.bits-2.result a))
