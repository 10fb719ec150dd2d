-- Two files that were just opened.
use Rattle.room_program.proofs.Common.{◌≡◌, ◌∙◌, ℕ, List, [], ◌∷◌, Bool, if◌then◌else◌, ap, subst, inl, inr}
use Rattle.sqlite_disk.specs.Events.{Event, settled, replay}
use Rattle.sqlite_disk.specs.History.{MayLeave}

module _ (log db : List ℕ) (is_log which : Bool) (which_is : is_log ≡ which) (events : List Event) (key : ℕ)
    (fresh : events ≡ settled key ∷ []) where
  -- they read as they were
  pub reads_first : (replay (if is_log then log else db) events).seen ≡ (if which then log else db)
  reads_first =
      ap (λ e. (replay (if is_log then log else db) e).seen) fresh ∙ ap (λ (b : Bool). if b then log else db) which_is

  -- and that is what a crash leaves
  pub leaves_first : (mixes : Bool) (left : List ℕ)
      → (let m = replay (if is_log then log else db) events in MayLeave mixes m.seen m.synced m.steps left)
      → left ≡ (if which then log else db)
  leaves_first mixes left may =
      let old : List ℕ = if is_log then log else db in
      let either = subst (λ e. MayLeave mixes (replay old e).seen (replay old e).synced (replay old e).steps left)
      fresh may in
      elim either [ inl seen ↦ seen | inr synced ↦ synced ] ∙ ap (λ (b : Bool). if b then log else db) which_is
