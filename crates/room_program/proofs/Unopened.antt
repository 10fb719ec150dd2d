-- Files in which no store was to be had hold what they held.
use Rattle.room_program.proofs.Common.{◌≡◌, ◌≢◌, ◌⊎◌, ◌∙◌, ℕ, ◌%◌, ◌≤◌, Bool, true, false, if◌then◌else◌, ◌==◌, IsTrue}
use Rattle.room_program.proofs.Common.{refl, sym, subst, inl, inr, arith, true≢false, ∥∥₁_map, ∥∥₁_elim, Ghosts, Trees}
use Rattle.room_program.proofs.Common.{outcomes, Image, IsIgnored, Database, IsDatabase, AreDatabases, recovers, view}
use Rattle.room_program.proofs.Common.{HoldsDatabase, IsNothing, NamesSize, SaysSums, FileStore, opens_again, Unopened}
use Rattle.room_program.proofs.Common.{Holds, MayBeLeft, IsRefusedIn, StayUnopened}
use Rattle.std.proofs.lemmas.Bool.{cases_eq}
use Rattle.sqlite_trees.specs.Props.{Trees-set}
use Rattle.sqlite_pool.specs.Stored.{reserved, stored_size, is_summed, StandsAs}
use Rattle.sqlite_pool.proofs.ProbeLemmas.{size_by_log, size_by_file, reserved_word}
use Rattle.sqlite_store.specs.Unopened.{state_of}
use Rattle.sqlite.specs.Recovery as raw
use Rattle.sqlite.specs.declared.error.Error.{Error}
use Rattle.sqlite.specs.declared.Leftover.{Leftover}
use Rattle.sqlite.specs.declared.Leftover.TheVariants as leftover
use Rattle.sqlite.proofs.FileLemmas.{is_something}

-- a crash leaves of a store what it may leave alone
pub may_hold : {D : Type 0} (g : Ghosts D) (it : FileStore D g) (image : Image) (db : Database) → MayBeLeft it image
    → IsTrue (view it).is_numbered → IsDatabase db
    → ((trees : Trees) → recovers it trees → trees ≡ db.trees) → Holds image db
may_hold g it image db left numbered sound only =
    let all : AreDatabases (recovers it) = λ trees may. (
      db.schema,
      subst (λ t. IsDatabase (record { schema = db.schema; trees = t })) (sym (only trees may)) sound,
    ) in record {
      trees = ∥∥₁_map (opens_again it numbered all image left)
          (λ found. subst (HoldsDatabase image) (only found.0 found.1) found.2);
      sound = sound;
    }

-- eight bytes of a page are reserved for its sum, or none
abbrev eight : Bool → ℕ
eight b = if b then 8 else 0

with_sum : (b : Bool) → (IsTrue (eight b == 8) × (eight b ≡ 8)) ⊎ ((eight b == 8 ≡ false) × (eight b ≡ 0))
with_sum true = inl (refl, refl)
with_sum false = inr (refl, refl)

-- the page size that an open took is that of the database, and so what stands for its files holds the database
module _ (found : Image) (size : ℕ) (named : NamesSize found (stored_size size))
    (says : IsTrue (is_summed size) → SaysSums (stored_size size) found) (trees : Trees)
    (held : HoldsDatabase found trees) (sees : IsTrue (is_summed held.0) → IsTrue (is_summed size)) where
  large : 504 ≤ held.0
  large = let few : reserved held.0 ≤ 8 = grind arith in omega (arith, held.1.0)

  not_other : ¬ (stored_size size ≢ stored_size held.0)
  not_other never =
      let read = λ (seen : ¬ IsIgnored found.log). never (named.0 seen
      ∙ size_by_log held.0 found held.2.pages held.2.found seen) in
      read (λ ignored. never (named.1 ignored
      ∙ size_by_file held.0 found held.2.pages held.2.found large held.2.ours.file.sound ignored))

  same_stored : stored_size size ≡ stored_size held.0
  same_stored = elim (cases_eq (stored_size size) (stored_size held.0)) [
    | inl same ↦ same
    | inr other ↦ absurd (not_other other)
  ]

  -- the header of the database says whether its pages end in sums
  has_sums : IsTrue (is_summed size) → reserved held.0 ≡ 8
  has_sums summed =
      let (first, is, long, word, magic) =
      reserved_word held.0 found held.2.pages held.2.found large held.2.ours.file.sound in
      let there = subst (λ s. raw.Recovers s found held.2.found.stored) (sym same_stored) held.2.found.found in
      let told = says summed held.2.found.stored first there is (long ∙ sym same_stored) in
      omega (arith, word, told)

  same_reserved : reserved size ≡ reserved held.0
  same_reserved = elim (with_sum (size % 16 == 8)) [
    | inl (summed, some) ↦ some ∙ sym (has_sums summed)
    | inr (unsummed, none) ↦ elim (with_sum (held.0 % 16 == 8)) [
      | inl (other, some) ↦ absurd (true≢false (sym (sees other) ∙ unsummed))
      | inr (other, nor) ↦ none ∙ sym nor
    ]
  ]

  same_size : size ≡ held.0
  same_size = omega (arith, same_stored, same_reserved)

  stands_for : (image : Image) → StandsAs size found image → HoldsDatabase image trees
  stands_for image stands = (
    held.0,
    held.1,
    record {
      pages = held.2.pages;
      wanted = held.2.wanted;
      schema = held.2.schema;
      found = (subst (λ s. StandsAs s found image) same_size stands).1 held.2.pages held.2.found;
      ours = held.2.ours;
      reads = held.2.reads;
      sound = held.2.sound;
    },
  )

pub stay_unopened : {D : Type 0} (g : Ghosts D) (image : Image) (why : Error) (rest : Leftover D g)
    → ((file : D) → g.may_leave file (g.seen file)) → IsRefusedIn image why rest → StayUnopened image (Unopened rest)
stay_unopened g image why (leftover.Files now) stays (files, opened, so) sees db holds after (clean, at) =
    let may : outcomes g now.log now.db after = elim at [
      | inl is ↦ subst (outcomes g now.log now.db) (sym is) (stays now.log, stays now.db)
      | inr out ↦ out
    ] in
    subst (λ i. Holds i db) (sym (opened.alone after ((so clean).1 after may))) holds
stay_unopened g image why (leftover.Unopened now) stays (files, opened, so) sees db holds after (clean, may) =
    elim (so clean).1 [
      | inl (nothing, way) ↦ absurd (∥∥₁_elim holds.trees (λ a b. absurd a)
          (λ held. is_something image db.trees held (subst IsNothing opened.shown nothing)))
      | inr (some, named, begins, says, left) ↦ elim (left after may).same [
        | inl out ↦ subst (λ i. Holds i db) (sym (opened.alone after out)) holds
        | inr stands ↦
            let size = (state_of now).page_size in record {
              trees = ∥∥₁_map holds.trees (λ held.
                  stands_for image size (subst (λ i. NamesSize i (stored_size size)) opened.shown named)
                  (λ summed. subst (SaysSums (stored_size size)) opened.shown (says summed)) db.trees held
                  (sees db.trees held) after (subst (λ i. StandsAs size i after) opened.shown stands));
              sound = holds.sound;
            }
      ]
    ]
stay_unopened g image why (leftover.Store it) stays (files, opened, so) sees db holds after (clean, may) =
    may_hold g it after db may.left may.numbered holds.sound (λ trees found.
    ∥∥₁_elim holds.trees (Trees-set _ _) (λ held. ((so clean).1 trees found).1 db.trees
    (subst (λ i. HoldsDatabase i db.trees) (sym opened.shown) held)))
