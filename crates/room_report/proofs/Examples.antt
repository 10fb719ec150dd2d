-- Worked examples, computed by the definitions.
use Rattle.room_report.proofs.Common.{◌≡◌, refl, [], ◌∷◌, SubjectModel, Room, fresh_room, access_text, list_text, hex}
use Rattle.std.specs.Prelude.{codes}
use Rattle.room_acl.specs.declared.subject.Kind.TheVariants.{Folder}

abbrev ann : SubjectModel
ann = record { name = codes "ann"; groups = codes "eng" ∷ [] }

abbrev bob : SubjectModel
bob = record { name = codes "bob"; groups = codes "eng" ∷ codes "staff" ∷ [] }

abbrev eng : SubjectModel
eng = record { name = codes "eng"; groups = [] }

-- the room after MKDIR /plans by ann
abbrev with_plans : Room
with_plans = record {
  objects = (
    codes "plans" ∷ [],
    record { kind = Folder; owner = codes "ann"; group = codes "eng"; aclflag = 1; own = []; bytes = [] },
  )
      ∷ (fresh_room (codes "ann") (codes "eng")).objects;
  left = 999998;
}

example_fresh : access_text (fresh_room (codes "ann") (codes "eng")) (ann ∷ bob ∷ eng ∷ []) ≡ codes
    "001f07ff ann                              /\n001200a9 bob                              /\n00000000 eng                              /\n"
unfolding hex
example_fresh = refl

example_list : list_text (fresh_room (codes "ann") (codes "eng")) ≡ codes
    "d 0 ann                              eng                              /\n  A 03 001f07ff OWNER@\n  A 03 001200a9 GROUP@\n"
unfolding hex
example_list = refl

example_plans : access_text with_plans (ann ∷ [])
    ≡ codes "001f07ff ann                              /\n001f07ff ann                              /plans\n"
unfolding hex
example_plans = refl

example_lists : list_text with_plans ≡ codes
    "d 0 ann                              eng                              /\n  A 03 001f07ff OWNER@\n  A 03 001200a9 GROUP@\nd 1 ann                              eng                              /plans\n  A 83 001f07ff OWNER@\n  A 83 001200a9 GROUP@\n"
unfolding hex
example_lists = refl
