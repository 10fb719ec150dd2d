-- Worked examples of pasts that a caller cannot tell apart: an event of another more, and other bytes that it wrote.
use Rattle.room_desk.proofs.Common.{ℕ, refl, inl, Bool, true, List, [], ◌∷◌, codes, bytes_eq, SubjectModel, Room}
use Rattle.room_desk.proofs.Common.{fresh_room, Request, Open, Slot, History, AlikePasts, Begin, Both, First}
use Rattle.room_commands.specs.CommandModel as C
use Rattle.room_commands.proofs.Others.{stay_itself}
use Rattle.room_desk.specs.OtherBytes.{DifferInBytes, NoEvents, Same, Written}

abbrev ann : SubjectModel
ann = record { name = codes "ann"; groups = codes "eng" ∷ [] }

abbrev bob : SubjectModel
bob = record { name = codes "bob"; groups = codes "eng" ∷ [] }

abbrev start : Room
start = fresh_room (codes "ann") (codes "eng")

-- one letter stands for the 32 digits of a session name
abbrev anns : List ℕ
anns = codes "a"

abbrev bobs : List ℕ
bobs = codes "b"

abbrev is_bobs : List ℕ → Bool
is_bobs name = bytes_eq bobs name

-- bob opens a session in both, and in the first ann does so too
session_more : AlikePasts bob is_bobs start start (Open ann anns 3 ∷ Open bob bobs 1 ∷ []) (Open bob bobs 1 ∷ [])
session_more = First (Open bob bobs 1 ∷ []) (Open bob bobs 1 ∷ []) (Open ann anns 3) tt (inl refl)
    (stay_itself start bob) (Both [] [] (Open bob bobs 1) refl tt refl (Begin (stay_itself start bob)))

abbrev opened : History
opened = Open ann anns 3 ∷ []

abbrev writes : List ℕ → Request
writes bytes = record {
  caller = ann;
  sid = anns;
  slot = 0;
  seq = 1;
  command = C.Write bytes (codes "f" ∷ []);
  keep = true;
}

-- ann writes other bytes, as many
other_bytes : DifferInBytes bob (Slot (writes (codes "old")) ∷ opened) (Slot (writes (codes "new")) ∷ opened)
other_bytes = Written opened opened (writes (codes "old")) (C.Write (codes "new") (codes "f" ∷ [])) refl refl
    (Same [] [] (Open ann anns 3) NoEvents)
