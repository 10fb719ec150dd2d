use Rattle.room_wire.proofs.Common.{◌≡◌, ℕ, ◌+◌, ◌-◌, ◌*◌, ◌/◌, ◌++◌, sym, ap, arith, ◌∙◌, append-nil, standard}
use Rattle.room_wire.proofs.Common.{encode_of-nil}
use Rattle.room_wire.proofs.Lemmas.Forms.Letters.{block_written, rest_written}
use Rattle.room_wire.proofs.forms.letters.append_letters.Goals as goal

pub loop-block-init : goal.loop-block-init
loop-block-init c =
    sym (ap (λ x. c.args.text.now.items ++ x) (encode_of-nil standard) ∙ append-nil c.args.text.now.items)

pub loop-block-preserved : goal.loop-block-preserved
loop-block-preserved c =
    let n : ℕ = c.loop-block.block in
    block_written c.args.bytes.now c.args.text.now.items c.loop-block.text.items c.fill_block.new.block
    c.extend_from_slice.new.self.items n (192 * n + 194 - 192 * n) (omega arith) (omega arith)
    c.loop-block.invariant c.fill_block.ensures c.in_ok-extend_from_slice.ensures.items

pub returns : goal.returns
returns c =
    let n : ℕ = c.saturating_sub-blocks.result / 192 in
    let all : c.loop-block.block ≡ n = omega arith in
    rest_written c.extend_from_slice-2.result c.args.bytes.now c.args.text.now.items c.loop-block.text.items
    c.as_bytes.result.now c.extend_from_slice-2.new.self.items n (omega arith) (rw all at c.loop-block.invariant)
    (c.as_bytes.ensures.value ∙ c.in_ok-rest.ensures.text) c.extend_from_slice-2.ensures.items
