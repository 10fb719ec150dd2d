-- Worked examples of a client: what keeps its rule, and what does not.
use Rattle.room_desk.proofs.Common.{◌≡◌, ℕ, suc, refl, ap, arith, inl, inr, true, false, List, [], ◌∷◌, length, Option}
use Rattle.room_desk.proofs.Common.{None, Some, codes, both_ways, SubjectModel, Room, CommandModel, IsLawful, Delay}
use Rattle.room_desk.proofs.Common.{SeqFalseRetry, EventModel, Open, Close, Slot, AnswerModel, Reply, Refused, History}
use Rattle.room_desk.proofs.Common.{answer_to, Lane, HoldsSlot, Asks, Attempt, Client, idle, AsksOn, KeepsRule, IsTold}
use Rattle.room_records.proofs.PathParts.{root_is_path}
use Rattle.room_commands.specs.CommandModel as C

abbrev ann : SubjectModel
ann = record { name = codes "ann"; groups = codes "eng" ∷ [] }

abbrev bob : SubjectModel
bob = record { name = codes "bob"; groups = [] }

abbrev s : List ℕ
s = codes "a"

abbrev lane : Lane
lane = record { user = codes "ann"; sid = s; slot = 2 }

abbrev by : SubjectModel → ℕ → CommandModel → EventModel
by caller seq command =
    Slot (record { caller = caller; sid = s; slot = 2; seq = seq; command = command; keep = true })

abbrev stat_root : CommandModel
stat_root = C.Stat []

abbrev list_root : CommandModel
list_root = C.ListNames []

lawful : IsLawful stat_root
lawful = root_is_path

-- ann holds slot 2 of the session that she opened
held : HoldsSlot lane (Open ann s 3 ∷ [])
held = record {
  session = record { owner = codes "ann"; slots = 3; since = [] };
  named = refl;
  owned = refl;
  going = refl;
  below = refl;
}

-- ann asks twice for the first command and once for the second; bob tries her slot meanwhile, and a copy comes late
asks_twice : Asks lane 0 (by ann 1 stat_root ∷ by ann 2 list_root ∷ by ann 1 stat_root ∷ by bob 2 stat_root
    ∷ by ann 1 stat_root ∷ []) (list_root ∷ stat_root ∷ [])
asks_twice = inr (
  inl (0, omega arith, (refl, refl)),
  inl (
    ((refl, refl), refl, lawful),
    inr (inl (0, omega arith, (refl, refl)), inr (inr refl, inl (((refl, refl), refl, lawful), refl))),
  ),
)

-- one that leaves a number out does not ask in turn
skips : Asks lane 0 (by ann 2 stat_root ∷ []) (stat_root ∷ []) → ⊥
skips (inl first) = absurd (omega (arith, first.0.0.1))
skips (inr (other, none)) = absurd cc

-- nor is the session left where ann closes it
closes : Asks lane 0 (Close ann s ∷ []) [] → ⊥
closes (inl none) = none
closes (inr (inl used, none)) = used.2
closes (inr (inr others, none)) = both_ways _ (refl {a = false}) others

-- a client that gets no answer, then DELAY, then a reply
abbrev sent : ℕ → CommandModel → Option AnswerModel → Attempt
sent seq command told = record { event = by ann seq command; told = told }

waits : KeepsRule lane 0 idle (sent 1 stat_root None ∷ sent 1 stat_root (Some (Refused Delay))
    ∷ sent 1 stat_root (Some (Reply [])) ∷ sent 2 list_root None ∷ [])
    (record { done = stat_root ∷ []; asking = list_root ∷ [] })
waits = (
  _,
  inr (stat_root, ((refl, refl), refl, lawful), inl refl),
  (
    _,
    inr (stat_root, ((refl, refl), refl, lawful), inl refl),
    (
      _,
      inr (stat_root, ((refl, refl), refl, lawful), inl refl),
      (_, inr (list_root, ((refl, refl), refl, lawful), inl refl), refl),
    ),
  ),
)

-- one that goes on to the next number before it is told breaks the rule
hurries : (after next : Client) → AsksOn lane 0 idle (sent 1 stat_root (Some (Refused Delay))) next
    → AsksOn lane 0 next (sent 2 list_root None) after → ⊥
hurries after next (inl (inl used, same)) two = absurd (omega (arith, used.1))
hurries after next (inl (inr others, same)) two = both_ways _ (refl {a = false}) others
hurries after next (inr (command, ask, inr (retry, other, only, same))) two = absurd cc
hurries after next (inr (command, ask, inl same)) (inl (inl used, then)) =
    let less = rw same at used.1 in absurd (omega (arith, less))
hurries after next (inr (command, ask, inl same)) (inl (inr others, then)) = both_ways _ (refl {a = false}) others
hurries after next (inr (command, ask, inl same)) (inr (other, too, then)) =
    let two = rw same at too.0.1 in absurd (omega (arith, two))

-- a client that gave its first command up, and asked for another with the same number, learns by the false retry that
-- the first one ran
gives_up : KeepsRule lane 0 idle (sent 1 stat_root None ∷ sent 1 list_root (Some (Refused SeqFalseRetry)) ∷ [])
    (record { done = stat_root ∷ []; asking = [] })
gives_up = (
  _,
  inr (stat_root, ((refl, refl), refl, lawful), inl refl),
  (_, inr (list_root, ((refl, refl), refl, lawful), inr (refl, stat_root, (inl refl, tt), refl)), refl),
)

-- ann asks for the same command twice, and for each is told the reply of its own run
abbrev opened : History
opened = Open ann s 3 ∷ []

abbrev once : History
once = by ann 1 stat_root ∷ opened

abbrev twice : History
twice = by ann 2 stat_root ∷ once

told_first : (start : Room)
    → IsTold lane start 0 idle once stat_root (Some (answer_to start opened (by ann 1 stat_root)))
told_first start = (_, _, refl, refl, inl (refl, inl refl))

told_second : (start : Room) → IsTold lane start 0 (record { done = stat_root ∷ []; asking = [] }) twice stat_root
    (Some (answer_to start once (by ann 2 stat_root)))
told_second start = (_, _, refl, refl, inl (refl, inl refl))

-- but not that of the second run for the first, nor that of a run before the law begins
not_of_the_second : (start : Room) (told : Option AnswerModel) → IsTold lane start 0 idle twice stat_root told → ⊥
not_of_the_second start told (a, earlier, last, many, tells) =
    let two : 2 ≡ suc (length earlier) = ap length last in absurd (omega (arith, two, many))

not_of_one_before : (start : Room) (told : Option AnswerModel) → IsTold lane start 1 idle once stat_root told → ⊥
not_of_one_before start told (a, earlier, last, many, tells) =
    let one : 1 ≡ suc (length earlier) = ap length last in absurd (omega (arith, one, many))
