use Rattle.room_wire.proofs.Common.{◌≡◌, ℕ, ◌+◌, ◌*◌, length, slice_index, sym, arith, rules}
use Rattle.room_wire.proofs.Lemmas.Forms.Letters.{letters_of_six, twelve_high, twelve_low, places_first, places_second}
use Rattle.room_wire.proofs.forms.letters.eight_letters.Goals as goal

pub returns : goal.returns
returns c =
    let value = c.from_be_bytes-word.ensures in
    let x : ℕ = c.from_be_bytes-word.result in
    let f0 = c.fits-bytes 0 in
    let f1 = c.fits-bytes 1 in
    let f2 = c.fits-bytes 2 in
    let f3 = c.fits-bytes 3 in
    let f4 = c.fits-bytes 4 in
    let f5 = c.fits-bytes 5 in
    let f6 = c.fits-bytes 6 in
    let f7 = c.fits-bytes 7 in
    let b0 : ℕ = slice_index c.args.bytes.now 0 in
    let b1 : ℕ = slice_index c.args.bytes.now 1 in
    let b2 : ℕ = slice_index c.args.bytes.now 2 in
    let b3 : ℕ = slice_index c.args.bytes.now 3 in
    let b4 : ℕ = slice_index c.args.bytes.now 4 in
    let b5 : ℕ = slice_index c.args.bytes.now 5 in
    let b6 : ℕ = slice_index c.args.bytes.now 6 in
    let b7 : ℕ = slice_index c.args.bytes.now 7 in
    let high = twelve_high x b0 b1 b2 (b3 * 4294967296 + b4 * 16777216 + b5 * 65536 + b6 * 256 + b7) (omega arith)
    f0 f1 f2 (omega arith) in
    let low = twelve_low x (b0 * 65536 + b1 * 256 + b2) b3 b4 b5 (b6 * 256 + b7) (omega arith) f3 f4 f5 (omega arith) in
    let p0 = places_first b0 b1 f0 f1 in
    let p1 = places_second b1 b2 f1 f2 in
    let p2 = places_first b3 b4 f3 f4 in
    let p3 = places_second b4 b5 f4 f5 in
    let long : length c.args.bytes.now ≡ 8 = search rules in
    rw (
      c.two_letters-first.ensures,
      c.two_letters-second.ensures,
      c.two_letters-third.ensures,
      c.two_letters-fourth.ensures,
      high.0,
      high.1,
      low.0,
      low.1,
      p0.0,
      p0.1,
      p1.0,
      p1.1,
      p2.0,
      p2.1,
      p3.0,
      p3.1,
    ) (sym (letters_of_six c.args.bytes.now long))
