-- Bytes as base64.
use Rattle.room_wire.proofs.Common.{◌≡◌, ℕ, zero, suc, List, [], ◌∷◌, refl, sym, ap, ◌∙◌, arith, None, Some, Ok}
use Rattle.room_wire.proofs.Common.{standard, decode_of, decoded_of, encode_of, IsBytes, IsConsistent, IsDecodeFailure}
use Rattle.room_wire.proofs.Common.{decode_of-encode_of, AreBytes}
use Rattle.std.specs.Result.{result_ok}
use Rattle.base64.specs.declared.decode.DecodeError.{DecodeError}
use Rattle.base64.specs.declared.decode.DecodeAllocError.{DecodeAllocError}
use Rattle.base64.specs.declared.decode.DecodeAllocError.TheVariants.{DecodeError as Failed, OutOfMemory}

pub decoded_some : (given text bytes : List ℕ) → given ≡ text
    → decode_of standard given ≡ Ok bytes → Some bytes ≡ decoded_of standard text
unfolding decoded_of
decoded_some given text bytes same e = sym (ap (λ t. result_ok (decode_of standard t)) (sym same) ∙ ap result_ok e)

pub decoded_none : (given text : List ℕ) (fault : DecodeAllocError) (inner : DecodeError) → given ≡ text
    → IsDecodeFailure standard given fault → fault ≡ Failed inner → None ≡ decoded_of standard text
unfolding decoded_of
decoded_none given text (Failed d) inner same e is =
    sym (ap (λ t. result_ok (decode_of standard t)) (sym same) ∙ ap result_ok e)
decoded_none given text OutOfMemory inner same e is = absurd cc

pub are_bytes : (bytes : List ℕ) → AreBytes bytes → IsBytes bytes
are_bytes [] h i = omega arith
are_bytes (b ∷ bytes) h zero = h.0
are_bytes (b ∷ bytes) h (suc i) = are_bytes bytes h.1 i

-- the engine in use reads what it writes
consistent : IsConsistent standard
consistent = refl

pub bytes_back : (bytes : List ℕ) → AreBytes bytes → decoded_of standard (encode_of standard bytes) ≡ Some bytes
bytes_back bytes h =
    sym (decoded_some _ _ bytes refl (decode_of-encode_of standard bytes consistent (are_bytes bytes h)))
