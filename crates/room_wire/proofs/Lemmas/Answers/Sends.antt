-- What a writer took, call after call.
use Rattle.room_wire.proofs.Common.{◌≡◌, ℕ, Bool, true, false, List, ◌++◌, subst, Option, Appends-trans, Sent}
use Rattle.room_records.proofs.Writers.{front_then}

pub sent_then : (a b c : Option (List ℕ)) (x y : List ℕ) (ok : Bool)
    → Sent a b x true → Sent b c y ok → Sent a c (x ++ y) ok
sent_then a b c x y true h k = Appends-trans a b c x y h k
sent_then a b c x y false h k = front_then a b c x y h k

pub sent_is : (a b : Option (List ℕ)) (x y : List ℕ) (ok : Bool) → x ≡ y → Sent a b x ok → Sent a b y ok
sent_is a b x y ok e h = subst (λ t. Sent a b t ok) e h
