-- What a crash leaves, in other words.
use Rattle.room_desk.proofs.Common.{◌⊎◌, inl, inr}

pub leaves_either : {A B C D : Type 0} → A ⊎ B → (A → C) → (B → D) → C ⊎ D
leaves_either (inl a) f g = inl (f a)
leaves_either (inr b) f g = inr (g b)
