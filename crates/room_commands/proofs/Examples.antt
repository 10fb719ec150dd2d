-- Worked examples, computed by the definitions: one command from a room that is written out.
use Rattle.room_commands.proofs.Common.{◌≡◌, ℕ, refl, true, false, Bool, List, [], ◌∷◌, None, Some, codes, Kind, File}
use Rattle.room_commands.proofs.Common.{Folder, Owner, Group, Everyone, User, SubjectModel, EntryModel, Path, Access}
use Rattle.room_commands.proofs.Common.{NotEmpty, Inval, Exist, Room, Object, fresh_room, list_of, Done, Names, Size}
use Rattle.room_commands.proofs.Common.{Bytes, Entries, NotDone, effect}
use Rattle.room_acl.specs.declared.who.Who.{Who}
use Rattle.room_commands.specs.CommandModel as C

abbrev ann : SubjectModel
ann = record { name = codes "ann"; groups = codes "eng" ∷ [] }

abbrev bob : SubjectModel
bob = record { name = codes "bob"; groups = codes "eng" ∷ codes "staff" ∷ [] }

abbrev start : Room
start = fresh_room (codes "ann") (codes "eng")

abbrev entry : Bool → ℕ → ℕ → Who → EntryModel
entry allow flags mask who = record { allow = allow; flags = flags; mask = mask; who = who }

abbrev root : List EntryModel → Path × Object
root own = ([], record { kind = Folder; owner = codes "ann"; group = codes "eng"; aclflag = 0; own = own; bytes = [] })

abbrev fresh_entries : List EntryModel
fresh_entries = entry true 3 2033663 Owner ∷ entry true 3 1179817 Group ∷ []

abbrev of_ann : Path → Kind → ℕ → List EntryModel → List ℕ → Path × Object
of_ann path kind aclflag own bytes = (
  path,
  record { kind = kind; owner = codes "ann"; group = codes "eng"; aclflag = aclflag; own = own; bytes = bytes },
)

abbrev plans : Path
plans = codes "plans" ∷ []

abbrev plans_a : Path
plans_a = codes "plans" ∷ codes "a" ∷ []

-- after MKDIR /plans
abbrev seven : Room
seven = record { objects = of_ann plans Folder 1 [] [] ∷ root fresh_entries ∷ []; left = 999998 }

made_plans : effect start ann (C.Mkdir plans) ≡ record { room = seven; reply = Done }
made_plans = refl

made_twice : effect seven ann (C.Mkdir plans)
    ≡ record { room = seven; reply = NotDone (record { code = Exist; place = None }) }
made_twice = refl

example_list : (effect seven ann (C.ListNames [])).reply ≡ Names ((codes "plans", Folder) ∷ [])
example_list = refl

-- after CREATE /plans/a
abbrev created : Room
created = record {
  objects = of_ann plans_a File 1 [] (codes "hi")
      ∷ of_ann plans Folder 1 [] [] ∷ root fresh_entries ∷ [];
  left = 999997;
}

example_created : effect seven ann (C.Create (codes "hi") plans_a) ≡ record { room = created; reply = Size 2 }
example_created = refl

abbrev eight : Room
eight = record {
  objects = of_ann plans_a File 1 [] (codes "hi!")
      ∷ of_ann plans Folder 1 [] [] ∷ root fresh_entries ∷ [];
  left = 999997;
}

example_appended : effect created ann (C.Append (codes "!") plans_a) ≡ record { room = eight; reply = Size 3 }
example_appended = refl

example_read : effect eight ann (C.Read plans_a) ≡ record { room = eight; reply = Bytes (codes "hi!") }
example_read = refl

example_denied : (effect eight bob (C.Create [] (codes "x" ∷ []))).reply
    ≡ NotDone (record { code = Access; place = Some ([], 2) })
example_denied = refl

example_set :
    (effect eight ann (C.SetList 0 (entry true 3 2033663 Owner ∷ entry true 3 2033663 Everyone ∷ []) [])).reply ≡ Done
example_set = refl

abbrev d : Path
d = codes "d" ∷ []

abbrev d_f : Path
d_f = codes "d" ∷ codes "f" ∷ []

abbrev d_g : Path
d_g = codes "d" ∷ codes "g" ∷ []

abbrev for_bob : List EntryModel
for_bob = entry false 0 64 (User (codes "bob")) ∷ entry true 0 2033663 Everyone ∷ []

abbrev fourteen : Room
fourteen = record {
  objects = of_ann d_g File 1 [] [] ∷ of_ann d_f File 1 (entry true 0 65536 (User (codes "bob")) ∷ []) []
      ∷ of_ann d Folder 2 for_bob [] ∷ root fresh_entries ∷ [];
  left = 999996;
}

example_not_empty : (effect fourteen bob (C.Remove d)).reply ≡ NotDone (record { code = NotEmpty; place = None })
example_not_empty = refl

example_removed : (effect fourteen bob (C.Remove d_f)).reply ≡ Done
example_removed = refl

example_not_removed : (effect fourteen bob (C.Remove d_g)).reply
    ≡ NotDone (record { code = Access; place = Some (d_g, 65536) })
example_not_removed = refl

abbrev fifteen : Room
fifteen = record {
  objects = of_ann (codes "e" ∷ []) Folder 1 [] []
      ∷ of_ann (codes "a" ∷ codes "d" ∷ []) Folder 1 [] []
      ∷ of_ann (codes "a" ∷ codes "b" ∷ codes "c" ∷ []) Folder 1 [] []
      ∷ of_ann (codes "a" ∷ codes "b" ∷ []) Folder 3 (entry true 3 2033663 Owner ∷ []) []
      ∷ of_ann (codes "a" ∷ []) Folder 1 (entry true 3 1 (User (codes "bob")) ∷ []) []
      ∷ root fresh_entries ∷ [];
  left = 999994;
}

example_follows : list_of fifteen (codes "a" ∷ codes "d" ∷ [])
    ≡ entry true 131 1 (User (codes "bob")) ∷ entry true 131 2033663 Owner ∷ entry true 131 1179817 Group ∷ []
example_follows = refl

example_getlist : (effect fifteen ann (C.GetList (codes "a" ∷ codes "d" ∷ []))).reply
    ≡ Entries 1 (entry true 131 1 (User (codes "bob"))
    ∷ entry true 131 2033663 Owner ∷ entry true 131 1179817 Group ∷ [])
example_getlist = refl

example_below_protected : list_of fifteen (codes "a" ∷ codes "b" ∷ codes "c" ∷ []) ≡ entry true 131 2033663 Owner ∷ []
example_below_protected = refl

example_renamed : (effect fifteen ann (C.Rename (codes "a" ∷ codes "d" ∷ []) (codes "e" ∷ codes "d" ∷ []))).reply ≡ Done
example_renamed = refl

example_list_there : list_of (effect fifteen ann
    (C.Rename (codes "a" ∷ codes "d" ∷ []) (codes "e" ∷ codes "d" ∷ []))).room (codes "e" ∷ codes "d" ∷ [])
    ≡ entry true 131 2033663 Owner ∷ entry true 131 1179817 Group ∷ []
example_list_there = refl

example_into_itself : (effect fifteen ann (C.Rename (codes "a" ∷ []) (codes "a" ∷ codes "x" ∷ []))).reply
    ≡ NotDone (record { code = Inval; place = None })
example_into_itself = refl

abbrev step : Room → C.CommandModel → Room
step room command = (effect room ann command).room

abbrev a_path : Path
a_path = codes "a" ∷ []

-- seven commands, and then a list
example_eight : (effect
    (step (step (step (step (step (step (step start (C.Mkdir a_path)) (C.Mkdir (codes "a" ∷ codes "b" ∷ []))) (C.Mkdir
    (codes "a" ∷ codes "b" ∷ codes "c" ∷ []))) (C.Mkdir (codes "a" ∷ codes "d" ∷ []))) (C.Mkdir (codes "e" ∷ [])))
    (C.SetList 3 (entry true 3 2033663 Owner ∷ []) (codes "a" ∷ codes "b" ∷ []))) (C.SetList 1
    (entry true 3 1 (User (codes "bob")) ∷ []) a_path)) ann (C.GetList (codes "a" ∷ codes "d" ∷ []))).reply
    ≡ Entries 1 (entry true 131 1 (User (codes "bob"))
    ∷ entry true 131 2033663 Owner ∷ entry true 131 1179817 Group ∷ [])
example_eight = refl
