-- A client's attempts: the events that joined the history ask for its commands, each once.
use Rattle.room_desk.proofs.Common.{◌≡◌, ◌≢◌, ℕ, suc, ◌+◌, ◌^◌, ◌<◌, ◌≤◌, refl, ap, sym, ◌∙◌, arith, inl, inr, ◌⊎◌}
use Rattle.room_desk.proofs.Common.{subst, zero, Bool, true, false, List, [], ◌∷◌, length, Option, Some, ◌++◌}
use Rattle.room_desk.proofs.Common.{if◌then◌else◌, Contains, AllByRecursion, bytes_eq, bytes_decides, cases_Bool}
use Rattle.room_desk.proofs.Common.{both_ways, common_steps, Room, CommandModel, IsLawful, EventModel, Slot}
use Rattle.room_desk.proofs.Common.{command_text, RetryUncached, SeqFalseRetry, AnswerModel, Reply, Refused, History}
use Rattle.room_desk.proofs.Common.{Accepted, accepted, original_reply, answer_to, Lane, HoldsSlot, ran, is_others}
use Rattle.room_desk.proofs.Common.{HasNumber, IsAsk, IsUsed, Asks, Attempt, tells_done, Client, idle, AsksOn}
use Rattle.room_desk.proofs.Common.{KeepsRule, is_lost, Meets, Taken, answer_again, IsTold, HasDone}
use Rattle.room_wire.proofs.Lemmas.Forms.CommandBack.{one_command}
use Rattle.room_desk.proofs.Clients.{stands_after, number_of, first_answer, again_answer, other_answer}

-- a client after it asked for a command
abbrev after_ask : Client → CommandModel → (is_done : Bool) → Client
after_ask client command is_done = if is_done then record { done = command ∷ client.done; asking = [] }
    else record { done = client.done; asking = command ∷ client.asking }

-- what the history has of a client: the commands that it was told ran, and perhaps one that it asked for since
abbrev pub Has : Lane → ℕ → Client → History → Type 0
Has lane count client later =
    Asks lane count later client.done
    ⊎ ((command : CommandModel) × Contains client.asking command × Asks lane count later (command ∷ client.done))

-- a part of the history, and what it has of the client
abbrev pub Knows : Lane → ℕ → History → Client → History → Type 0
Knows lane count past client next =
    (later : History) × (next ≡ later ++ past) × Has lane count client later

module _ (lane : Lane) (count : ℕ) where
  has_ask : (number : ℕ) (command : CommandModel) (event : EventModel) → IsAsk lane number command event
      → HasNumber lane number event × IsLawful command
  has_ask number command (Slot q) ask = (ask.0, ask.2)
  has_ask number command event ask = absurd ask

  asks_lawful : (later : History) (command : CommandModel) (before : List CommandModel)
      → Asks lane count later (command ∷ before) → IsLawful command
  asks_lawful [] command before none = absurd cc
  asks_lawful (event ∷ later) command before (inl first) =
      (has_ask (count + length before) command event first.0).1
  asks_lawful (event ∷ later) command before (inr (other, asks)) = asks_lawful later command before asks

  used_more : (many : ℕ) (event : EventModel) → IsUsed lane count many event → IsUsed lane count (suc many) event
  used_more many event (i, less, has) = (i, omega (arith, less), has)

  -- what others do, and a number that was used
  others_has : (client : Client) (later : History) (event : EventModel)
      → IsUsed lane count (length client.done) event ⊎ (is_others lane event ≡ true) → Has lane count client later
      → Has lane count client (event ∷ later)
  others_has client later event (inr others) (inl asks) = inl (inr (inr others, asks))
  others_has client later event (inr others) (inr (command, is, asks)) =
      inr (command, is, inr (inr others, asks))
  others_has client later event (inl used) (inl asks) = inl (inr (inl used, asks))
  others_has client later event (inl used) (inr (command, is, asks)) =
      inr (command, is, inr (inl (used_more (length client.done) event used), asks))

  -- the last number again
  last_again : (later : History) (event : EventModel) (asked command : CommandModel) (done : List CommandModel)
      → IsAsk lane (count + length done) command event → Asks lane count later (asked ∷ done)
      → Asks lane count (event ∷ later) (asked ∷ done)
  last_again later event asked command done ask asks =
      inr (inl (length done, omega arith, (has_ask (count + length done) command event ask).0), asks)

  asked_more : (client : Client) (command asked : CommandModel) → Contains client.asking asked
      → Contains (command ∷ client.asking) asked
  asked_more client command asked among = (suc among.0, omega (arith, among.1), among.2)

  -- where it was not told that the command ran
  not_told : (client : Client) (later : History) (event : EventModel) (command : CommandModel)
      → IsAsk lane (count + length client.done) command event → Has lane count client later
      → Has lane count (after_ask client command false) (event ∷ later)
  not_told client later event command ask (inl asks) = inr (command, (0, omega arith, refl), inl (ask, asks))
  not_told client later event command ask (inr (asked, among, asks)) =
      inr (asked, asked_more client command asked among, last_again later event asked command client.done ask asks)

  not_joined : (client : Client) (later : History) (command : CommandModel) → Has lane count client later
      → Has lane count (after_ask client command false) later
  not_joined client later command (inl asks) = inl asks
  not_joined client later command (inr (asked, among, asks)) = inr (asked, asked_more client command asked among, asks)

module _ (lane : Lane) (start : Room) (past : History) (holds : HoldsSlot lane past) where
  abbrev count : ℕ
  count = length (ran lane past)

  by_keeping : (a : Accepted) (told : Option AnswerModel) → told ≡ Some (answer_again start a)
      → (told ≡ Some (Reply (original_reply start a)))
      ⊎ ((told ≡ Some (Refused RetryUncached)) × (a.request.keep ≡ false))
  by_keeping a told is = elim (cases_Bool a.request.keep) [
    | inl kept ↦ inl (rw kept at is)
    | inr unkept ↦ inr (rw unkept at is, unkept)
  ]

  told_done : (a : Accepted) (told : Option AnswerModel)
      → (told ≡ Some (Reply (original_reply start a)))
      ⊎ ((told ≡ Some (Refused RetryUncached)) × (a.request.keep ≡ false)) → tells_done told ≡ true
  told_done a told (inl is) = rw is refl
  told_done a told (inr (is, unkept)) = rw is refl

  -- the last accepted request came after all of which the client was told
  after_done : (later : History) (command : CommandModel) (done : List CommandModel) (a : Accepted)
      (earlier : List Accepted) → Asks lane count later (command ∷ done) → suc (length done) < 2 ^ 32
      → accepted (later ++ past) lane.sid lane.slot ≡ a ∷ earlier → length earlier ≡ count + length done
  after_done later command done a earlier asks few joins =
      let stands = stands_after lane past later (command ∷ done) holds asks few in
      let many = rw joins at (number_of lane past later (command ∷ done) stands) in omega (arith, many)

  -- the event was answered: the history has its command as the last, or another one that was asked for
  answered_by : (client : Client) (later : History) (event : EventModel) (told : Option AnswerModel)
      (command : CommandModel) → Has lane count client later
      → IsAsk lane (count + length client.done) command event → suc (length client.done) < 2 ^ 32
      → told ≡ Some (answer_to start (later ++ past) event)
      → IsTold lane start count client (event ∷ (later ++ past)) command told
      × Has lane count (after_ask client command (tells_done told)) (event ∷ later)
  answered_by client later event told command (inl asks) ask few answered =
      let stands = stands_after lane past later client.done holds asks (omega (arith, few)) in
      let (a, earlier, joins, same, reply) = first_answer start lane past later client.done stands event command ask in
      let is = rw reply at answered in (
        (
          a,
          earlier,
          joins,
          after_done (event ∷ later) command client.done a earlier (inl (ask, asks)) few joins,
          inl (same, inl is),
        ),
        rw is (inl (inl (ask, asks))),
      )
  answered_by client later event told command (inr (asked, among, asks)) ask few answered =
      let stands = stands_after lane past later (asked ∷ client.done) holds asks few in
      let again = last_again lane count later event asked command client.done ask asks in
      elim (cases_Bool (bytes_eq (command_text command) (command_text asked))) [
        | inl same_text ↦
            (let same = one_command command asked (has_ask lane count (count + length client.done) command event ask).1
            (asks_lawful lane count later asked client.done asks)
            ((bytes_decides (command_text command) (command_text asked)).0 same_text) in
            let (a, earlier, joins, of, reply) =
            again_answer start lane past later asked client.done stands few event (rw same at ask) in
            let is = by_keeping a told (rw reply at answered) in
            let many = after_done (event ∷ later) asked client.done a earlier again few joins in (
              (a, earlier, joins, many, inl (of ∙ sym same, is)),
              rw (told_done a told is) (inl (rw same again)),
            ))
        | inr other_text ↦
            (let differs : command_text command ≢ command_text asked =
            λ e. both_ways _ other_text ((bytes_decides (command_text command) (command_text asked)).1 e) in
            let (a, earlier, joins, of, reply) =
            other_answer start lane past later asked client.done stands few event command differs ask in
            let is = rw reply at answered in
            let many = after_done (event ∷ later) asked client.done a earlier again few joins in (
              (a, earlier, joins, many, inr (rw of among, (λ e. differs (ap command_text (sym e ∙ of))), is)),
              rw is (not_told lane count client later event command ask (inr (asked, among, asks))),
            ))
      ]

  -- after a false retry another command is there that was asked for
  false_retry : (client : Client) (later : History) (event : EventModel) (told : Option AnswerModel)
      (command : CommandModel) → Has lane count client later
      → IsAsk lane (count + length client.done) command event → suc (length client.done) < 2 ^ 32
      → told ≡ Some (answer_to start (later ++ past) event) → told ≡ Some (Refused SeqFalseRetry)
      → (asked : CommandModel) × Contains client.asking asked × (asked ≢ command)
      × Asks lane count (event ∷ later) (asked ∷ client.done)
  false_retry client later event told command (inl asks) ask few answered retry =
      let stands = stands_after lane past later client.done holds asks (omega (arith, few)) in
      let (a, earlier, joins, same, reply) = first_answer start lane past later client.done stands event command ask in
      let is = rw reply at answered in absurd cc
  false_retry client later event told command (inr (asked, among, asks)) ask few answered retry =
      let stands = stands_after lane past later (asked ∷ client.done) holds asks few in
      elim (cases_Bool (bytes_eq (command_text command) (command_text asked))) [
        | inl same_text ↦
            (let same = one_command command asked (has_ask lane count (count + length client.done) command event ask).1
            (asks_lawful lane count later asked client.done asks)
            ((bytes_decides (command_text command) (command_text asked)).0 same_text) in
            let (a, earlier, joins, of, reply) =
            again_answer start lane past later asked client.done stands few event (rw same at ask) in
            absurd (both_ways _ (rw retry refl) (told_done a told (by_keeping a told (rw reply at answered)))))
        | inr other_text ↦ (
          asked,
          among,
          (λ e. both_ways _ other_text ((bytes_decides (command_text command) (command_text asked)).1
              (ap command_text (sym e)))),
          last_again lane count later event asked command client.done ask asks,
        )
      ]

  all_at : (P : CommandModel → Type 0) (xs : List CommandModel) (x : CommandModel) → AllByRecursion P xs
      → Contains xs x → P x
  all_at P [] x all among = absurd (omega (arith, among.1))
  all_at P (y ∷ ys) x all (zero, below, is) = subst P is all.0
  all_at P (y ∷ ys) x all (suc k, below, is) = all_at P ys x all.1 (k, omega (arith, below), is)

  -- so the one other command ran
  other_ran : (client : Client) (later : History) (event : EventModel) (told : Option AnswerModel)
      (command other : CommandModel) → Has lane count client later
      → IsAsk lane (count + length client.done) command event → suc (length client.done) < 2 ^ 32
      → told ≡ Some (answer_to start (later ++ past) event) → told ≡ Some (Refused SeqFalseRetry)
      → AllByRecursion (λ c. (c ≡ other) ⊎ (c ≡ command)) client.asking
      → Asks lane count (event ∷ later) (other ∷ client.done)
  other_ran client later event told command other has ask few answered retry only =
      let (asked, among, differs, asks) = false_retry client later event told command has ask few answered retry in
      elim (all_at (λ c. (c ≡ other) ⊎ (c ≡ command)) client.asking asked only among) [
        | inl is ↦ rw is at asks
        | inr is ↦ absurd (differs is)
      ]

  lost_tells_nothing : (told : Option AnswerModel) → is_lost told ≡ true → tells_done told ≡ false
  lost_tells_nothing told lost = grind (arith, common_steps)

  one_attempt : (client after : Client) (between next : History) (sent : Attempt)
      → Knows lane count past client between → AsksOn lane count client sent after
      → Meets start between sent next → suc (length client.done) < 2 ^ 32 → Knows lane count past after next
  one_attempt client after between next sent (later, is, has) (inl (others, same)) (inl (told, joins)) few =
      (sent.event ∷ later, joins ∙ rw is refl, rw same (others_has lane count client later sent.event others has))
  one_attempt client after between next sent (later, is, has) (inl (others, same)) (inr (lost, inl stays)) few =
      (later, stays ∙ is, rw same has)
  one_attempt client after between next sent (later, is, has) (inl (others, same)) (inr (lost, inr joins)) few =
      (sent.event ∷ later, joins ∙ rw is refl, rw same (others_has lane count client later sent.event others has))
  one_attempt client after between next sent (later, is, has) (inr (command, ask, inl same)) (inl (told, joins)) few = (
    sent.event ∷ later,
    joins ∙ rw is refl,
    rw same
        (answered_by client later sent.event sent.told command has ask few (rw is at told)).1,
  )
  one_attempt client after between next sent (later, is, has) (inr (command, ask, inl same))
      (inr (lost, inl stays)) few =
      (later, stays ∙ is, rw (same, lost_tells_nothing sent.told lost) (not_joined lane count client later command has))
  one_attempt client after between next sent (later, is, has) (inr (command, ask, inl same))
      (inr (lost, inr joins)) few = (
        sent.event ∷ later,
        joins ∙ rw is refl,
        rw (same, lost_tells_nothing sent.told lost)
            (not_told lane count client later sent.event command ask has),
      )
  one_attempt client after between next sent (later, is, has) (inr (command, ask, inr (retry, other, only, same)))
      (inl (told, joins)) few = (
        sent.event ∷ later,
        joins ∙ rw is refl,
        rw same (inl (other_ran client later sent.event sent.told command other
            has ask few (rw is at told) retry only)),
      )
  one_attempt client after between next sent known (inr (command, ask, inr (retry, other, only, same)))
      (inr (lost, either)) few = absurd (both_ways _ (refl {a = false}) (rw retry at lost))

  -- what was told stays told
  one_more : (client after : Client) (sent : Attempt) → AsksOn lane count client sent after
      → length client.done ≤ length after.done
  one_more client after sent (inl (others, same)) = rw same (omega arith)
  one_more client after sent (inr (command, ask, inr (retry, other, only, same))) = rw same (omega arith)
  one_more client after sent (inr (command, ask, inl same)) = rw same (elim (cases_Bool (tells_done sent.told)) [
    | inl done ↦ rw done (omega arith)
    | inr other ↦ rw other (omega arith)
  ])

  no_less : (client after : Client) (sent : List Attempt) → KeepsRule lane count client sent after
      → length client.done ≤ length after.done
  no_less client after [] same = rw same (omega arith)
  no_less client after (one ∷ rest) (mid, goes, keeps) =
      omega (arith, one_more client mid one goes, no_less mid after rest keeps)

  all_attempts : (client after : Client) (between next : History) (sent : List Attempt)
      → Knows lane count past client between → KeepsRule lane count client sent after
      → Taken start between sent next → suc (length after.done) < 2 ^ 32 → Knows lane count past after next
  all_attempts client after between next [] (later, is, has) same ends few = (later, ends ∙ is, rw same has)
  all_attempts client after between next (one ∷ rest) knows (mid, goes, keeps) (met, meets, taken) few =
      let so_far = no_less client after (one ∷ rest) (mid, goes, keeps) in
      all_attempts mid after met next rest (one_attempt client mid between met one knows goes meets
      (omega (arith, so_far, few))) keeps taken few

  pub after_attempts : (after : Client) (next : History) (sent : List Attempt)
      → KeepsRule lane count idle sent after → Taken start past sent next → suc (length after.done) < 2 ^ 32
      → Knows lane count past after next
  after_attempts after next sent keeps taken few =
      all_attempts idle after past next sent ([], refl, inl refl) keeps taken few

  -- the commands that it was told ran have run, and perhaps one that it asked for since
  done_by : (client : Client) (next : History) → Knows lane count past client next
      → suc (length client.done) < 2 ^ 32 → HasDone lane client past next
  done_by client next (later, is, inl asks) few =
      let stands = stands_after lane past later client.done holds asks (omega (arith, few)) in
      rw is (stands.holds, inl stands.done)
  done_by client next (later, is, inr (command, among, asks)) few =
      let stands = stands_after lane past later (command ∷ client.done) holds asks few in
      rw is (stands.holds, inr (command, among, stands.done))

  pub client_did : (after : Client) (next : History) (sent : List Attempt)
      → KeepsRule lane count idle sent after → Taken start past sent next → suc (length after.done) < 2 ^ 32
      → HasDone lane after past next
  client_did after next sent keeps taken few = done_by after next (after_attempts after next sent keeps taken few) few

  told_by : (client : Client) (between : History) (event : EventModel) (told : Option AnswerModel)
      (command : CommandModel) → Knows lane count past client between
      → IsAsk lane (count + length client.done) command event → suc (length client.done) < 2 ^ 32
      → told ≡ Some (answer_to start between event) → IsTold lane start count client (event ∷ between) command told
  told_by client between event told command (later, is, has) ask few answered =
      rw is (answered_by client later event told command has ask few (rw is at answered)).0

  pub client_told : (client : Client) (between next : History) (sent : List Attempt) (one : Attempt)
      (command : CommandModel) → KeepsRule lane count idle sent client → Taken start past sent between
      → IsAsk lane (count + length client.done) command one.event → Meets start between one next
      → is_lost one.told ≡ false → suc (length client.done) < 2 ^ 32
      → IsTold lane start count client next command one.told
  client_told client between next sent one command keeps taken ask (inl (answered, joins)) told few =
      rw joins (told_by client between one.event one.told command
      (after_attempts client between sent keeps taken few) ask few answered)
  client_told client between next sent one command keeps taken ask (inr lost) told few =
      absurd (both_ways _ told lost.0)
