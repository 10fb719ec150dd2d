-- A worked example of a client over files: a reply that is lost as the run stops.
use Rattle.room_program.proofs.Common.{ℕ, refl, inl, inr, true, List, [], ◌∷◌, Option, None, Some, codes, flat_map}
use Rattle.room_program.proofs.Common.{Slot, AnswerModel, Reply, Refused, Lane, Attempt, HearsLess, idle, KeepsRule}
use Rattle.room_records.proofs.PathParts.{root_is_path}
use Rattle.room_commands.specs.CommandModel as C
use Rattle.room_commands.specs.Lawful.{IsLawful}
use Rattle.room_wire.specs.declared.answers.code.Code.TheVariants.{BadSession}

abbrev lane : Lane
lane = record { user = codes "ann"; sid = codes "a"; slot = 2 }

-- a STAT of the root with the number 1, by this user, in ann's slot
abbrev stat : List ℕ → Option AnswerModel → Attempt
stat name told = record {
  event = Slot (record {
    caller = record { name = name; groups = [] };
    sid = codes "a";
    slot = 2;
    seq = 1;
    command = C.Stat [];
    keep = true;
  });
  told = told;
}

lawful : IsLawful (C.Stat [])
lawful = root_is_path

abbrev answered : Option AnswerModel
answered = Some (Reply (codes "{}"))

-- the first run answers ann, and stops; the second takes no room; in the third bob comes first, and then ann again
abbrev runs : List (List Attempt)
runs = (stat (codes "ann") answered ∷ []) ∷ []
    ∷ (stat (codes "bob") (Some (Refused BadSession)) ∷ stat (codes "ann") answered ∷ []) ∷ []

-- the answer of the first did not reach her
abbrev heard : List Attempt
heard = stat (codes "ann") None ∷ stat (codes "bob") (Some (Refused BadSession)) ∷ stat (codes "ann") answered ∷ []

hears : HearsLess (flat_map (λ (sent : List Attempt). sent) runs) heard
hears = ((refl, inr refl), ((refl, inl refl), ((refl, inl refl), tt)))

-- she keeps the rule, and knows that her command ran
keeps : KeepsRule lane 0 idle heard (record { done = C.Stat [] ∷ []; asking = [] })
keeps = (
  _,
  inr (C.Stat [], ((refl, refl), refl, lawful), inl refl),
  (_, inl (inr refl, refl), (_, inr (C.Stat [], ((refl, refl), refl, lawful), inl refl), refl)),
)
