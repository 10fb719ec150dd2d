use Rattle.room_wire.proofs.Common.{◌≡◌, ◌≤◌, ℕ, ◌+◌, ◌-◌, ◌*◌, length, sym, arith, rules, ◌∙◌, take_all, same_len_mid}
use Rattle.room_wire.proofs.Common.{standard, encode_of-nil}
use Rattle.room_wire.proofs.Lemmas.Forms.Letters.{six_written}
use Rattle.room_wire.proofs.forms.letters.fill_block.Goals as goal

pub loop-six-init : goal.loop-six-init
loop-six-init c = record { letters = sym (encode_of-nil standard); long = search rules }

pub loop-six-preserved : goal.loop-six-preserved
loop-six-preserved c =
    let n : ℕ = c.loop-six.six in
    record {
      letters = six_written c.args.bytes.now c.loop-six.block c.copy_from_slice.new.self
          c.copy_from_slice-in-loop-six.new.self
          n (6 * n + 8 - 6 * n) (8 * n + 8 - 8 * n) (omega arith) (omega arith) (omega arith)
          c.copy_from_slice.ensures.after
          (c.copy_from_slice-in-loop-six.ensures.after ∙ c.eight_letters.ensures) c.loop-six.invariant.letters;
      long = same_len_mid (8 * n) _ c.loop-six.block c.copy_from_slice-in-loop-six.new.self
          c.copy_from_slice-in-loop-six.ensures.len ∙ c.loop-six.invariant.long;
    }

pub returns : goal.returns
returns c =
    let all : c.loop-six.six ≡ 32 = omega arith in
    let short : length c.loop-six.block ≤ 256 = omega arith in
    sym (take_all 256 c.loop-six.block short) ∙ rw all at c.loop-six.invariant.letters
