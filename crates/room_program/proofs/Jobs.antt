-- What the function of a job promises, said of the job and its texts.
use Rattle.room_program.proofs.Common.{◌≡◌, ℕ, List, false, Option, String, Result, Ok, Err, refl, sym, subst}
use Rattle.room_program.proofs.Common.{inr, string_bytes, IfOk, IfErr, Init, Replay, Serve, Report, ReportKind, Held}
use Rattle.room_program.proofs.Common.{Fault, Call, opens, leaves, InitEnds, OpensStore, Reports, ServesRoom, Ends}
use Rattle.room_program.proofs.Common.{Means, RunsJob, streams, means, Exchange, SqlShelf, sql_view, Known, cached_view}
use Rattle.room_program.proofs.Common.{Takes, Made, Unmade}
use Rattle.std.specs.declared.alloc.Global.{Global}
use Rattle.sqlite_trees.specs.declared.store.Store.{Ghosts}
use Rattle.room_words.specs.declared.job.Job.{Job}
use Rattle.room_program.specs.declared.fault.Fault.TheVariants.{StoreFailed}
use Rattle.room_program.specs.Replays.{Replays}

-- what is said of two texts is said of the texts that they equal
of_two : (P : List ℕ → List ℕ → Type 0) (a b x y : List ℕ) → a ≡ x → b ≡ y → P a b → P x y
of_two P a b x y e f p = subst (P x) f (subst (λ t. P t b) e p)

of_three : (P : List ℕ → List ℕ → List ℕ → Type 0) (a b c x y z : List ℕ)
    → a ≡ x → b ≡ y → c ≡ z → P a b c → P x y z
of_three P a b c x y z e f h p = of_two (P x) b c y z f h (subst (λ t. P t b c) e p)

-- a store was opened, and is outside a transaction, or was let go
pub opened_outside : {S M : Type 0} (does : M → Call (Held S) → M → Type 0) (path : List ℕ) (old begun new : M)
    (opened : Held S) → does old (opens path (Ok opened)) begun → (result : Result (Held S) Fault)
    → IfOk result (λ c. (c ≡ opened) × (new ≡ begun) × (c.in_transaction ≡ false))
    → IfErr result (λ why. (why ≡ StoreFailed) × does begun (leaves opened) new) → OpensStore does path old new result
opened_outside does path old begun new opened did (Ok c) (same, still, outside) left =
    subst (λ n. does old (opens path (Ok c)) n) (sym still)
    (subst (λ k. does old (opens path (Ok k)) begun) (sym same) did)
opened_outside does path old begun new opened did (Err why) kept (is, gone) =
    subst (λ f. OpensStore does path old new (Err f)) (sym is) (inr (opened, begun, did, gone))

-- a run over tables in stores
abbrev pub over_tables : {S M : Type 0} (store : Ghosts S) → (does : M → Call (Held S) → M → Type 0)
    → (connects : M → Exchange → M → Type 0) → (fails : M → M → Type 0) → Means M (Held S) (SqlShelf S store × Known)
over_tables {S} store does connects fails = means does connects fails
    (λ (opened : Held S) (taken : Result (SqlShelf S store × Known) (Fault × Held S)). Takes store opened taken)
    (λ shelf. shelf.0.conn) (Made store) (Unmade store) (cached_view (sql_view store))

module _ {M C Shelf : Type 0} (m : Means M C Shelf) (before later : M) where
  pub ran_init : (job : Job) (db owner group : String Global) (d o g : List ℕ)
      (input output errors told : Option (List ℕ)) (status : ℕ) → job ≡ Init db owner group
      → d ≡ string_bytes db → o ≡ string_bytes owner → g ≡ string_bytes group
      → Ends (InitEnds m.does (m.made o g) (m.unmade o g) d o g before later) errors told status
      → RunsJob m before later job (streams input output errors) (streams input output told) status
  ran_init job db owner group d o g input output errors told status is is_db is_owner is_group ends =
      let May : List ℕ → List ℕ → List ℕ → Type 0 = λ d o g.
      Ends (InitEnds m.does (m.made o g) (m.unmade o g) d o g before later) errors told status in
      let Ran : Job → Type 0 = λ job.
      RunsJob m before later job (streams input output errors) (streams input output told) status in
      subst Ran (sym is) (refl, refl, of_three May d o g _ _ _ is_db is_owner is_group ends)

  pub ran_report : (job : Job) (db roster : String Global) (kind : ReportKind) (d r : List ℕ)
      (input output written errors told : Option (List ℕ)) (status : ℕ) → job ≡ Report db roster kind
      → d ≡ string_bytes db → r ≡ string_bytes roster
      → Ends (Reports m.does m.takes m.store m.seen d r kind before later output written) errors told status
      → RunsJob m before later job (streams input output errors) (streams input written told) status
  ran_report job db roster kind d r input output written errors told status is is_db is_roster ends =
      let May : List ℕ → List ℕ → Type 0 = λ d r.
      Ends (Reports m.does m.takes m.store m.seen d r kind before later output written) errors told status in
      let Ran : Job → Type 0 = λ job.
      RunsJob m before later job (streams input output errors) (streams input written told) status in
      subst Ran (sym is) (refl, of_two May d r _ _ is_db is_roster ends)

  pub ran_replay : (job : Job) (roster owner group : String Global) (r o g : List ℕ)
      (input left output written errors told : Option (List ℕ)) (status : ℕ) → job ≡ Replay roster owner group
      → r ≡ string_bytes roster → o ≡ string_bytes owner → g ≡ string_bytes group
      → Ends (Replays m.does r o g before later input left output written) errors told status
      → RunsJob m before later job (streams input output errors) (streams left written told) status
  ran_replay job roster owner group r o g input left output written errors told status is is_roster is_owner is_group
      ends =
      let May : List ℕ → List ℕ → List ℕ → Type 0 = λ r o g.
      Ends (Replays m.does r o g before later input left output written) errors told status in
      let Ran : Job → Type 0 = λ job.
      RunsJob m before later job (streams input output errors) (streams left written told) status in
      subst Ran (sym is) (of_three May r o g _ _ _ is_roster is_owner is_group ends)

  pub ran_serve : (job : Job) (db roster : String Global) (port count : ℕ) (d r : List ℕ)
      (input output errors told : Option (List ℕ)) (status : ℕ) → job ≡ Serve db roster port count
      → d ≡ string_bytes db → r ≡ string_bytes roster
      → Ends (ServesRoom m.does m.connects m.fails m.takes m.store m.seen d r port count before later)
      errors told status
      → RunsJob m before later job (streams input output errors) (streams input output told) status
  ran_serve job db roster port count d r input output errors told status is is_db is_roster ends =
      let May : List ℕ → List ℕ → Type 0 = λ d r.
      Ends (ServesRoom m.does m.connects m.fails m.takes m.store m.seen d r port count before later)
      errors told status in
      let Ran : Job → Type 0 = λ job.
      RunsJob m before later job (streams input output errors) (streams input output told) status in
      subst Ran (sym is) (refl, refl, of_two May d r _ _ is_db is_roster ends)
