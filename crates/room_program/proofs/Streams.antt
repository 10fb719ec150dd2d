-- One stream after another.
use Rattle.std.specs.List.{AllByRecursion, Contains}
use Rattle.std.specs.Bool.{MatchBool}
use Rattle.room_program.proofs.Common.{◌≡◌, ◌⊎◌, ◌∙◌, inl, inr, ℕ, zero, suc, List, [], Option, refl, sym, subst, ap}
use Rattle.room_program.proofs.Common.{Result, Ok, Err, ◌∷◌, Bool, true, false, SubjectModel, Records, Room, View}
use Rattle.room_program.proofs.Common.{LeavesNew, EventModel, History, RepresentsHistory, StandsFor, AnswersMessage}
use Rattle.room_program.proofs.Common.{IsRun, MayAnswer, Exchange, ServesEach, GoesOn, GoesOnBy, Carries, ServesSome}
use Rattle.room_program.proofs.Common.{AnswersOrMore, MayAsk, OrMore, Rosters, ServedTo, Visit, rosters_over}
use Rattle.room_wire.specs.declared.serving.stop.Why.{Why}
use Rattle.room_wire.specs.declared.serving.stop.Why.TheVariants.{Closed, BadMessage, ReadFailed, WriteFailed, Memory}
use Rattle.room_wire.specs.Messages.MessageModel.{MessageModel, IsMessage}
use Rattle.room_wire.specs.Messages.Stream.{Follows, Ended, is_last}
use Rattle.room_wire.specs.Serving.Ends.{Wrote}
use Rattle.room_wire.specs.Answers.AnswerModel.{AnswerModel}
use Rattle.room_wire.specs.Serving.Outputs.{Outputs}
use Rattle.room_wire.specs.declared.fault.WireFault.{WireFault}
use Rattle.room_wire.specs.Asks.AskOf.{AskModel, Check, Event, ask_of}
use Rattle.room_wire.proofs.Lemmas.Serving.Rounds.{first_answered, no_output}
use Rattle.room_desk.specs.Stops.{AnswersInDoubt, Doubt, StandsInDoubt, doubt_after, is_delay, no_doubt}
use Rattle.room_desk.proofs.AttemptRuns.{in_none, one_of}
use Rattle.std.proofs.lemmas.Bool.{cases_Bool}
use Rattle.room_records.proofs.Shelves.{no_call, calls_then}
use Rattle.room_desk.proofs.Messages.{goes_on}
use Rattle.room_desk.proofs.Stops.{at_rest, intact_before, laid_out_in_turn}
use Rattle.room_desk.proofs.StreamStops.{stream_in_doubt, by_answers}

-- what stands at the front of a stream are messages
follow_lawful : (bytes : List ℕ) (ms : List MessageModel) (rest : List ℕ) → Follows bytes ms rest
    → AllByRecursion IsMessage ms
follow_lawful bytes [] rest is = tt
follow_lawful bytes (m ∷ ms) rest (tail, reads, last, more) = (reads.lawful, follow_lawful tail ms rest more)

end_lawful : (bytes : List ℕ) (ms : List MessageModel) (rest : List ℕ) → Ended bytes ms rest
    → AllByRecursion IsMessage ms
end_lawful bytes [] rest none = absurd none
end_lawful bytes (m ∷ ms) rest (tail, reads, either) =
    let tail_lawful : (b : Bool) → MatchBool b ((ms ≡ []) × (tail ≡ rest)) (Ended tail ms rest)
    → AllByRecursion IsMessage ms = λ b. elim b as (λ b. MatchBool b ((ms ≡ []) × (tail ≡ rest)) (Ended tail ms rest)
    → AllByRecursion IsMessage ms) [
      | true ↦ λ last. subst (AllByRecursion IsMessage) (sym last.0) tt
      | false ↦ λ more. end_lawful tail ms rest more
    ] in (reads.lawful, tail_lawful (is_last m) either)

either_lawful : (bytes : List ℕ) (ms : List MessageModel) (rest : List ℕ) → Follows bytes ms rest ⊎ Ended bytes ms rest
    → AllByRecursion IsMessage ms
either_lawful bytes ms rest (inl follows) = follow_lawful bytes ms rest follows
either_lawful bytes ms rest (inr ended) = end_lawful bytes ms rest ended

-- and so is what was served of it
pub served_lawful : (bytes rest : List ℕ) (ms : List MessageModel) (out : List ℕ) (after old new : Option (List ℕ))
    (why : Why) → Wrote bytes rest ms out after old new why → AllByRecursion IsMessage ms
served_lawful bytes rest ms out after old new Closed (wrote, inl ended) = end_lawful bytes ms rest ended
served_lawful bytes rest ms out after old new Closed (wrote, inr ended) = follow_lawful bytes ms rest ended.0
served_lawful bytes rest ms out after old new BadMessage wrote = follow_lawful bytes ms rest wrote.1
served_lawful bytes rest ms out after old new ReadFailed wrote = follow_lawful bytes ms rest wrote.1
served_lawful bytes rest ms out after old new WriteFailed (inl wrote) = either_lawful bytes ms rest wrote.0
served_lawful bytes rest ms out after old new WriteFailed (inr wrote) = follow_lawful bytes ms rest wrote.0
served_lawful bytes rest ms out after old new Memory wrote = subst (AllByRecursion IsMessage) (sym wrote.1) tt

pub ran : (users : List SubjectModel) (start : Room) (past : History) (ms : List MessageModel)
    (out : List ℕ) (next : History) → AllByRecursion IsMessage ms → IsRun users start past ms out next
    → GoesOn users start past next
ran users start past ms out next lawful run =
    let on = goes_on users start past ms out next run in
    record { messages = ms; lawful = lawful; output = out; run = run; events = on.0; on = on.1 }

-- no message was served
pub stays : (users : List SubjectModel) (start : Room) (past : History) → GoesOn users start past past
stays users start past =
    record { messages = []; lawful = tt; output = []; run = ([], refl, refl); events = []; on = refl }

-- nor in any connection
pub all_stay : (rosters : Rosters) (start : Room) (past : History) → GoesOnBy rosters start past past
all_stay [] start past = refl
all_stay (users ∷ earlier) start past = (past, all_stay earlier start past, stays users start past)

-- what went over a connection are messages
carried : {S : Type 0} (may_answer : S → MessageModel → AnswerModel → S → Type 0) (before after : S) (e : Exchange)
    → (all : Carries may_answer before e after) → AllByRecursion IsMessage all.2
carried may_answer before after e all = served_lawful all.0 all.1 all.2 all.3 e.left e.output e.written e.end.why all.7

module _ {S : Type 0} (view : S → View) where
  pub serves_none : (s : S) → ServesSome view [] s s
  serves_none s = record { frame = no_call _; run = λ intact start past stands. (past, refl, stands) }

  serves_more : (rosters : Rosters) (before then after : S) (v : Visit) → ServesSome view rosters before then
      → ServedTo view then v after → ServesSome view (v.users ∷ rosters) before after
  serves_more rosters before then after v a served = record {
    frame = calls_then _ _ _ served.frame a.frame;
    run = λ intact start past stands.
        let (mid, so_far, stand) = a.run (served.frame.was_intact intact) start past stands in
        let on = served.run intact start mid stand in
        let lawful = carried (AnswersMessage v.users start) mid on.0 v.exchange on.1 in
        (on.0, (mid, so_far, ran v.users start mid on.1.2 on.1.3 on.0 lawful on.1.5), on.2);
  }

  module _ {L : Type 0} (comes : L → Visit → L → Type 0) (old : L) (before : S) where
    pub serves_each : (n : ℕ) (last : L) (after : S) (each : ServesEach comes (ServedTo view) n old last before after)
        → ServesSome view (rosters_over comes view n old last before after each) before after
    serves_each zero last after none = subst (ServesSome view [] before) (sym none.1) (serves_none before)
    serves_each (suc n) last after (late, between, each, (v, took, served)) =
        serves_more (rosters_over comes view n old late before between each) before between after v
        (serves_each n late between each) served

-- these events were asked by messages of the users of one of these connections
abbrev AreAsked : Rosters → List EventModel → Type 0
AreAsked rosters events = (event : EventModel) → Contains events event → MayAsk rosters event

none_asked : (rosters : Rosters) → AreAsked rosters []
none_asked rosters event at = absurd (in_none event at)

module _ (users : List SubjectModel) (earlier : Rosters) where
  asked_then : (m : MessageModel) (ask : Result AskModel WireFault) (doubted : List EventModel)
      (answered : AnswerModel) → IsMessage m → ask_of users m ≡ ask → AreAsked (users ∷ earlier) doubted
      → AreAsked (users ∷ earlier) (doubt_after doubted ask answered)
  asked_then m (Ok (Check question)) doubted answered lawful is asked = asked
  asked_then m (Err fault) doubted answered lawful is asked = asked
  asked_then m (Ok (Event event)) doubted answered lawful is asked = elim (cases_Bool (is_delay answered)) [
    | inl delayed ↦ rw delayed (λ other at. elim (one_of event doubted other at) [
      | inl same ↦ inl (m, lawful, is ∙ ap (λ e. Ok (Event e)) (sym same))
      | inr old ↦ asked other old
    ])
    | inr other ↦ rw other (none_asked (users ∷ earlier))
  ]

  -- so are those that one more connection leaves in doubt
  asked_in_stream : (start : Room) (known : Doubt) (ms : List MessageModel) (out : List ℕ) (next : Doubt)
      → AllByRecursion IsMessage ms → Outputs (AnswersInDoubt users start) known ms out next
      → AreAsked (users ∷ earlier) known.doubted → AreAsked (users ∷ earlier) next.doubted
  asked_in_stream start known [] out next lawful run asked =
      subst (λ (d : Doubt). AreAsked (users ∷ earlier) d.doubted)
      (sym (no_output (AnswersInDoubt users start) run).1) asked
  asked_in_stream start known (m ∷ ms) out next lawful all asked =
      let run = first_answered (AnswersInDoubt users start) m ms all in
      asked_in_stream start run.1 ms run.2 next lawful.1 run.4 (subst (AreAsked (users ∷ earlier)) (sym run.3.1)
      (asked_then m (ask_of users m) known.doubted run.0 lawful.0 refl asked))

-- What a crash may leave after some connections, from a store that was there
module _ {S : Type 0} (view : S → View) (settled : (s : S) (left : Records) → (view s).is_available
    → (view s).crash_may_leave left → left ≡ (view s).records) (start : Room) where
  -- the rows stand for the history, and a crash leaves such rows, or with one of the events in doubt, and laid out;
  -- these were asked in one of the connections
  abbrev LeavesInDoubt : Rosters → Doubt → S → Type 0
  LeavesInDoubt rosters known s = StandsFor start known.past (view s)
      × LeavesNew (view s) (StandsInDoubt start known.past known.doubted) × (view s).leaves_laid_out
      × AreAsked rosters known.doubted

  at_first : (s : S) (past : History) → (view s).is_available → StandsFor start past (view s)
      → (view s).leaves_laid_out → LeavesInDoubt [] (no_doubt past) s
  at_first s past there stands laid =
      (stands, (λ left may. inl (at_rest view settled s start past there stands left may)), laid, none_asked [])

  some_in_doubt : (users : List SubjectModel) (earlier : Rosters) (before after : S) (ms : List MessageModel)
      (out : List ℕ) → AllByRecursion IsMessage ms → Outputs (MayAnswer view users) before ms out after
      → (view after).is_intact → (known : Doubt) → LeavesInDoubt earlier known before
      → (next : Doubt) × GoesOn users start known.past next.past × LeavesInDoubt (users ∷ earlier) next after
  some_in_doubt users earlier before after ms out lawful run intact known (stands, leaves, laid, asked) =
      let (next, answers, stand, left) = stream_in_doubt view settled users before after ms out start known run
      intact stands leaves in (
        next,
        ran users start known.past ms out next.past lawful (by_answers users start known ms out next answers),
        (
          stand,
          left,
          laid_out_in_turn view (ask_of users) before after ms run.0 start known.past run.1 intact stands laid,
          asked_in_stream users earlier start known ms out next lawful answers (λ event at. inr (asked event at)),
        ),
      )

  module _ {L : Type 0} (comes : L → Visit → L → Type 0) (old : L) (before : S) where
    each_in_doubt : (n : ℕ) (last : L) (after : S) (each : ServesEach comes (ServedTo view) n old last before after)
        → (view after).is_intact → (known : Doubt) → LeavesInDoubt [] known before
        → (next : Doubt) × GoesOnBy (rosters_over comes view n old last before after each) start known.past next.past
        × LeavesInDoubt (rosters_over comes view n old last before after each) next after
    each_in_doubt zero last after none intact known leaves =
        (known, refl, subst (LeavesInDoubt [] known) (sym none.1) leaves)
    each_in_doubt (suc n) last after (late, between, each, (v, took, served)) intact known leaves =
        let was = served.frame.was_intact intact in
        let (mid, goes, left) = each_in_doubt n late between each was known leaves in
        let all = served.messages in
        let (next, on, there) =
        some_in_doubt v.users (rosters_over comes view n old late before between each) between after all.2 all.3
        (carried (MayAnswer view v.users) between after v.exchange all) all.5 intact mid left in
        (next, (mid.past, goes, on), there)

  -- so it is or more
  or_more : (rosters : Rosters) (past : History) (next : Doubt) (after : S) → GoesOnBy rosters start past next.past
      → LeavesInDoubt rosters next after → (last : History) × GoesOnBy rosters start past last
      × LeavesNew (view after) (λ left. OrMore rosters last (RepresentsHistory start left))
      × (view after).leaves_laid_out
  or_more rosters past next after goes (stand, leaves, laid, asked) = (
    next.past,
    goes,
    λ left may. elim (leaves left may) [
      | inl rows ↦ inl rows
      | inr (event, at, rows) ↦ inr (event, asked event at, rows)
    ],
    laid,
  )

-- and after any number of them, over a shelf that meets the two laws
module _ {S : Type 0} (view : S → View) (settled : (s : S) (left : Records) → (view s).is_available
    → (view s).crash_may_leave left → left ≡ (view s).records)
    (leaves_laid_out : (s : S) → (view s).is_available → (view s).is_laid_out → (view s).leaves_laid_out)
    {L : Type 0} (comes : L → Visit → L → Type 0) (n : ℕ) (old last : L) (before between : S)
    (each : ServesEach comes (ServedTo view) n old last before between) (there : (view before).is_available) where
  abbrev rosters : Rosters
  rosters = rosters_over comes view n old last before between each

  pub each_answered : (view between).is_intact → AnswersOrMore view rosters before between
  each_answered intact start past stands =
      let known = at_first view settled start before past there stands (leaves_laid_out before there (stands there).0)
      in
      let (next, goes, left) = each_in_doubt view settled start comes old before n last between each intact
      (no_doubt past) known in
      or_more view settled start rosters past next between goes left

  -- and some messages of one more
  pub connections_answered : (users : List SubjectModel) (after : S) (ms : List MessageModel) (out : List ℕ)
      → AllByRecursion IsMessage ms → Outputs (MayAnswer view users) between ms out after
      → (view after).is_intact → AnswersOrMore view (users ∷ rosters) before after
  connections_answered users after ms out lawful run intact start past stands =
      let was = intact_before view (ask_of users) between after ms run.0 run.1 intact in
      let known = at_first view settled start before past there stands (leaves_laid_out before there (stands there).0)
      in
      let (mid, goes, left) = each_in_doubt view settled start comes old before n last between each was
      (no_doubt past) known in
      let (next, on, more) = some_in_doubt view settled start users rosters between after ms out lawful run intact mid
      left in
      or_more view settled start (users ∷ rosters) past next after (mid.past, goes, on) more
