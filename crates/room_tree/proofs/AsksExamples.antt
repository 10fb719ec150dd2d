-- Worked examples, computed by the definitions.
use Rattle.room_tree.proofs.Common.{◌≡◌, refl, [], ◌∷◌, codes, Kind, File, Folder, Path, Object, Room}
use Rattle.room_commands.specs.CommandModel as C
use Rattle.room_tree.specs.Asks.{at_or_below, most_asks}

abbrev object : Kind → Object
object kind = record { kind = kind; owner = codes "ann"; group = codes "eng"; aclflag = 1; own = []; bytes = [] }

abbrev plans : Path
plans = codes "plans" ∷ []

abbrev party : Path
party = codes "plans" ∷ codes "party" ∷ []

-- /, /plans, /plans/party and /plan
abbrev room : Room
room = record {
  objects = ([], object Folder) ∷ (plans, object Folder) ∷ (party, object File) ∷ (codes "plan" ∷ [], object File) ∷ [];
  left = 999996;
}

below_root : at_or_below room [] ≡ 4
below_root = refl

below_plans : at_or_below room plans ≡ 2
below_plans = refl

below_nothing : at_or_below room (codes "none" ∷ []) ≡ 0
below_nothing = refl

stat : most_asks (C.Stat party) (at_or_below room party) ≡ 9
stat = refl

setlist : most_asks (C.SetList 0 [] plans) (at_or_below room plans) ≡ 10
setlist = refl

rename : most_asks (C.Rename plans party) (at_or_below room plans) ≡ 20
rename = refl
