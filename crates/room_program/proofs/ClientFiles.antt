-- A client over several runs over files.
use Rattle.room_program.proofs.Common.{◌≡◌, ◌+◌, ℕ, zero, suc, ◌^◌, ◌<◌, List, [], ◌∷◌, ◌++◌, length, IsTrue, false}
use Rattle.room_program.proofs.Common.{refl, sym, subst, inl, inr, flat_map, ∥∥₁_map, ∥∥₁_elim, Ghosts, Trees, recovers}
use Rattle.room_program.proofs.Common.{view, opens_again, stays_at, Image, FileStore, HasCleanDisk, Held, AreDatabases}
use Rattle.room_program.proofs.Common.{file_state, over_files, HoldsDatabase, Records, Room, View, Known, records_of}
use Rattle.room_program.proofs.Common.{SqlShelf, History, StandsFor, Lane, HoldsSlot, ran, Attempt, HearsLess, Client}
use Rattle.room_program.proofs.Common.{idle, KeepsRule, HasDone, Taken, is_lost, IsAsk, IsTold, LeadsBy, attempts_in}
use Rattle.room_program.proofs.Common.{Left, ServesEach, Adopted, Closes, Holds, IsLeftBy, IsOpenedOver, HoldsRoom}
use Rattle.room_program.proofs.Common.{HoldsStill, MayBeLeft, HoldsRoomWith, ServedTo, Steps, Visit}
use Rattle.room_commands.specs.CommandModel.{CommandModel}
use Rattle.room_desk.proofs.Attempts.{client_did, client_told}
use Rattle.room_desk.proofs.AttemptRuns.{taken_in_turn, taken_unheard}
use Rattle.room_desk.proofs.ClientStreams.{Brings, brings_lead, brings_messages, brings_none, brings_then}
use Rattle.room_program.specs.ClientFiles.{TakesAttempts, sent_over}
use Rattle.room_program.proofs.Found.{stands, closed_in, closed_holds}
use Rattle.room_program.proofs.Restarts.{databases, settled, leaves_laid_out, shelf_view}

-- ---- what was sent

module _ {S : Type 0} (view : S → View) where
  -- so many connections
  pub brings_over : (settled : (s : S) (left : Records) → (view s).is_available → (view s).crash_may_leave left
      → left ≡ (view s).records) {L : Type 0} (comes : L → Visit → L → Type 0) (n : ℕ) (old new : L)
      (before after : S) (each : ServesEach comes (ServedTo view) n old new before after)
      → Brings view before after (sent_over comes view n old new before after each)
  brings_over settled comes zero old new before after none =
      subst (λ s. Brings view before s []) (sym none.1) (brings_none view before)
  brings_over settled comes (suc n) old new before after (last, between, each, (v, took, served)) =
      brings_then view before between after (sent_over comes view n old last before between each)
      (attempts_in v.users served.messages.2 served.messages.5.0)
      (brings_over settled comes n old last before between each)
      (brings_messages view settled v.users between after served.messages.2 served.messages.5.0 served.messages.5.1)

-- ---- one run over files that held a room

-- which it left as it was
pub still_takes : (found left : Image) → HoldsStill found left → TakesAttempts [] found left
still_takes found left still start past held = ∥∥₁_map (still start past held) (λ there. (past, refl, there))

module _ {D : Type 0} (g : Ghosts D) (stays : (file : D) → g.may_leave file (g.seen file)) (found : Image)
    (opened : Held (FileStore D g)) (taken last : SqlShelf (FileStore D g) over_files × Known)
    (is : IsOpenedOver found opened) (adopted : Adopted over_files opened taken) where
  pub leads_by : (sent : List Attempt) → Brings (shelf_view g stays) taken last sent
      → (shelf_view g stays last).is_intact → LeadsBy (shelf_view g stays) sent taken last
  leads_by sent brings intact = brings_lead (shelf_view g stays) (settled g stays) taken last sent
      (leaves_laid_out g stays taken) (λ was. (was, (adopted.1 was).0)) brings intact

  module _ (left : Image) (clean : HasCleanDisk (file_state last.0.conn)) (sent : List Attempt)
      (leads : LeadsBy (shelf_view g stays) sent taken last) where
    -- the files hold what a crash may leave of its shelf
    room_with : HoldsRoomWith left (shelf_view g stays last).crash_may_leave → TakesAttempts sent found left
    room_with some start past held =
        let (left_so, laid) = leads start past (stands g found start past held opened taken is adopted) in
        ∥∥₁_map some (λ one.
        let (db, holds, room, may) = one in
        let (next, taken_so, rows) = left_so (records_of db.trees) may in
        (next, taken_so, record { db = db; held = holds; room = inl room; rows = rows }))

    by_trees : (start : Room) (past : History) → HoldsRoom found start past → (trees : Trees)
        → recovers last.0.conn.store trees → HoldsDatabase left trees
        → (next : History) × Taken start past sent next × HoldsRoom left start next
    by_trees start past held trees may holds =
        let (left_so, laid) = leads start past (stands g found start past held opened taken is adopted) in
        let (schema, of_room) = laid trees may in
        let (next, taken_so, rows) = left_so (records_of trees) (clean, (trees, may, refl)) in (
          next,
          taken_so,
          record {
            db = record { schema = schema; trees = trees };
            held = record { trees = ∣ holds ∣₁; sound = of_room.sound };
            room = inl of_room;
            rows = rows;
          },
        )

    -- while its store is there
    open_takes : IsTrue (file_state last.0.conn).is_open → Holds left (file_state last.0.conn).now
        → TakesAttempts sent found left
    open_takes is_open holds start past held =
        let may = subst (recovers last.0.conn.store) (sym (last.0.rests is_open))
        (stays_at last.0.conn.store stays is_open) in
        ∥∥₁_map holds.trees (λ there. by_trees start past held (file_state last.0.conn).now.trees may there)

    -- and where it may be shut
    pub stop_takes : (it : FileStore D g) → ((trees : Trees) → recovers it trees → recovers last.0.conn.store trees)
        → IsTrue (view it).is_numbered → MayBeLeft it left → TakesAttempts sent found left
    stop_takes it only numbered at start past held =
        let (left_so, laid) = leads start past (stands g found start past held opened taken is adopted) in
        let sound : AreDatabases (recovers it)
        = λ trees may. databases g last.0.conn.store laid trees (only trees may) in
        ∥∥₁_map (opens_again it numbered sound left at) (λ one.
        by_trees start past held one.0 (only one.0 one.1) one.2)

  -- it was closed
  pub close_takes : (sent : List Attempt) → Brings (shelf_view g stays) taken last sent → (closed : Left D g)
      → Closes last.0.conn closed
      → (image : Image) → IsLeftBy found closed image → TakesAttempts sent found image
  close_takes sent brings closed did image at =
      let (clean, either) = closed_in g last.0.conn closed found image did at in
      let leads = leads_by sent brings clean in
      elim either [
        | inl is_open ↦ open_takes image clean sent leads is_open
            (closed_holds g stays last.0.conn closed found image did is_open (last.0.rests is_open) at)
        | inr (it, (kept, sure), numbered, may) ↦ stop_takes image clean sent leads it kept.quiet.outcomes numbered may
      ]

  -- its files were cut off
  pub cut_off_takes : (sent : List Attempt) → Brings (shelf_view g stays) taken last sent
      → (shelf_view g stays last).is_intact → (image : Image)
      → ((shelf_view g stays last).leaves_laid_out
      → HoldsRoomWith image (shelf_view g stays last).crash_may_leave) → TakesAttempts sent found image
  cut_off_takes sent brings intact image held_so start past held =
      let leads = leads_by sent brings intact in
      let laid = (leads start past (stands g found start past held opened taken is adopted)).1 in
      room_with image intact sent leads (held_so laid) start past held

-- ---- so many runs

-- the attempts of all, in their order
abbrev pub of_all : List (List Attempt) → List Attempt
of_all runs = flat_map (λ (sent : List Attempt). sent) runs

pub all_attempts : (runs : List (List Attempt)) (found left : Image) → Steps TakesAttempts runs found left
    → TakesAttempts (of_all runs) found left
all_attempts [] found left same start past held =
    ∣ (past, refl, subst (λ i. HoldsRoom i start past) (sym same) held) ∣₁
all_attempts (sent ∷ more) found left (mid, takes, later) start past held =
    ∥∥₁_elim (takes start past held) squash₁ (λ one.
    let (then, taken, there) = one in
    ∥∥₁_map (all_attempts more mid left later start then there) (λ all.
    (all.0, taken_in_turn start past then all.0 sent (of_all more) taken all.1, all.2)))

pub client_over_files : (start : Room) (lane : Lane) (past : History) (runs : List (List Attempt))
    (found left : Image) (sent : List Attempt) (client : Client) → HoldsRoom found start past → HoldsSlot lane past
    → Steps TakesAttempts runs found left → HearsLess (of_all runs) sent
    → KeepsRule lane (length (ran lane past)) idle sent client → suc (length client.done) < 2 ^ 32
    → ∥ ((next : History) × HoldsRoom left start next × HasDone lane client past next) ∥₁
client_over_files start lane past runs found left sent client held holds steps less keeps few =
    ∥∥₁_map (all_attempts runs found left steps start past held) (λ all.
    let (next, taken, there) = all in
    let did = client_did lane start past holds client next sent keeps
    (taken_unheard start past next (of_all runs) sent less taken) few in
    (next, there, did))

-- what came before an attempt, and what after
taken_apart : (start : Room) (past next : History) (sent more : List Attempt) → Taken start past (sent ++ more) next
    → (mid : History) × Taken start past sent mid × Taken start mid more next
taken_apart start past next [] more taken = (past, refl, taken)
taken_apart start past next (one ∷ rest) more (then, meets, taken) =
    let (mid, first, later) = taken_apart start then next rest more taken in (mid, (then, meets, first), later)

-- what a client was told, and what came then
abbrev pub WasTold : Lane → Room → Client → History → CommandModel → (sent later : List Attempt) → Attempt
    → (History → Type 0) → Type 0
WasTold lane start client past command sent later asked Ends = (then next : History)
    × Taken start past (sent ++ (asked ∷ [])) then
    × IsTold lane start (length (ran lane past)) client then command asked.told
    × Taken start then later next × Ends next

module _ (start : Room) (lane : Lane) (past : History) (sent later : List Attempt) (asked : Attempt)
    (command : CommandModel) (client : Client) (holds : HoldsSlot lane past)
    (keeps : KeepsRule lane (length (ran lane past)) idle sent client) (few : suc (length client.done) < 2 ^ 32)
    (ask : IsAsk lane (length (ran lane past) + length client.done) command asked.event)
    (heard : is_lost asked.told ≡ false) where
  told_then : (Ends : History → Type 0) (all : List Attempt) (next : History) → Taken start past all next
      → HearsLess all (sent ++ (asked ∷ later)) → Ends next
      → WasTold lane start client past command sent later asked Ends
  told_then Ends all next taken less ends =
      let unheard = taken_unheard start past next all (sent ++ (asked ∷ later)) less taken in
      let (mid, first, (then, meets, rest)) = taken_apart start past next sent (asked ∷ later) unheard in (
        then,
        next,
        taken_in_turn start past mid then sent (asked ∷ []) first (then, meets, refl),
        client_told lane start past holds client mid then sent asked command keeps first ask meets heard few,
        rest,
        ends,
      )

  pub told_over_files : (runs : List (List Attempt)) (found left : Image) → HoldsRoom found start past
      → Steps TakesAttempts runs found left → HearsLess (of_all runs) (sent ++ (asked ∷ later))
      → ∥ WasTold lane start client past command sent later asked (λ next. HoldsRoom left start next) ∥₁
  told_over_files runs found left held steps less =
      ∥∥₁_map (all_attempts runs found left steps start past held) (λ all.
      told_then (λ next. HoldsRoom left start next) (of_all runs) all.0 all.1 less all.2)

  -- and in a run that goes on
  pub told_meanwhile : {D : Type 0} (g : Ghosts D) (stays : (file : D) → g.may_leave file (g.seen file))
      (runs : List (List Attempt)) (found now : Image) (opened : Held (FileStore D g))
      (taken last : SqlShelf (FileStore D g) over_files × Known) (so_far : List Attempt)
      → HoldsRoom found start past → Steps TakesAttempts runs found now → IsOpenedOver now opened
      → Adopted over_files opened taken → Brings (shelf_view g stays) taken last so_far
      → (shelf_view g stays last).is_intact → HearsLess (of_all runs ++ so_far) (sent ++ (asked ∷ later))
      → ∥ WasTold lane start client past command sent later asked
      (λ next. StandsFor start next (shelf_view g stays last)) ∥₁
  told_meanwhile g stays runs found now opened taken last so_far held steps is adopted brings intact less =
      ∥∥₁_map (all_attempts runs found now steps start past held) (λ all.
      let (mid, before, there) = all in
      let (next, then, stand) = brings.on intact start mid (stands g now start mid there opened taken is adopted) in
      told_then (λ next. StandsFor start next (shelf_view g stays last)) (of_all runs ++ so_far) next
      (taken_in_turn start past mid next (of_all runs) so_far before then) less stand)
