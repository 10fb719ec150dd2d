-- Bodies as JSON values.
use Rattle.room_wire.proofs.Common.{◌≡◌, ℕ, Bool, true, false, List, None, Some, cond, refl, sym, ap, ◌∙◌, IsUtf8}
use Rattle.room_wire.proofs.Common.{is_utf8, IsUtf8-from_is_utf8, is_utf8-from_IsUtf8, Data, read, json_of}

pub json_some : (body : List ℕ) (d : Data) → IsUtf8 body → read body ≡ Some d → Some d ≡ json_of body
json_some body d text e = sym (ap (λ b. cond b (read body) None) (is_utf8-from_IsUtf8 body text) ∙ e)

pub json_none : (body : List ℕ) → (IsUtf8 body → read body ≡ None) → None ≡ json_of body
json_none body none = go (is_utf8 body) refl
  where
    go : (b : Bool) → is_utf8 body ≡ b → None ≡ cond b (read body) None
    go true e = sym (none (IsUtf8-from_is_utf8 body e))
    go false e = refl
