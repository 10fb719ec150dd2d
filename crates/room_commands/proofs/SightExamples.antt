-- What shows, most of it beyond the plain reading of the rights: two rooms whose sights differ in one field alone, and
-- a command of bob's that is answered differently in each. So no field can be left out of what a caller sees.
use Rattle.room_commands.proofs.Common.{◌≡◌, ◌+◌, ℕ, zero, suc, refl, true, List, [], ◌∷◌, ◌++◌, None, Some, codes}
use Rattle.room_commands.proofs.Common.{Option, Result, Ok, Kind, File, Folder, Everyone, SubjectModel, EntryModel}
use Rattle.room_commands.proofs.Common.{Path, Room, Object, NoEnt, Access, NotEmpty, IsDir, TooDeep, RoomFull}
use Rattle.room_commands.proofs.Common.{ReplyModel, Refusal, Attributes, Done, Size, Allowed, NotDone, About, Names}
use Rattle.room_commands.proofs.Common.{Bytes, Entries, effect, Sight, view, but_full, view_less}
use Rattle.room_commands.specs.CommandModel as C
use Rattle.room_commands.proofs.Shorthands.{replies}

abbrev bob : SubjectModel
bob = record { name = codes "bob"; groups = [] }

-- an object of ann's, with this group, these flags and this list
abbrev listed : Path → Kind → List ℕ → ℕ → List EntryModel → List ℕ → Path × Object
listed path kind group aclflag own data_bytes = (
  path,
  record {
    kind = kind;
    owner = codes "ann";
    group = group;
    aclflag = aclflag;
    own = own;
    bytes = data_bytes;
  },
)

abbrev everybody : ℕ → ℕ → EntryModel
everybody flags mask = record { allow = true; flags = flags; mask = mask; who = Everyone }

-- and one where everybody has these rights
abbrev of_ann : Path → Kind → ℕ → List ℕ → Path × Object
of_ann path kind mask data_bytes = listed path kind (codes "eng") 2 (everybody 0 mask ∷ []) data_bytes

abbrev room_of : List (Path × Object) → Room
room_of objects = record { objects = objects; left = 999900 }

abbrev a : Path
a = codes "a" ∷ []

abbrev a_b : Path
a_b = codes "a" ∷ codes "b" ∷ []

-- whether something is there, without any right on it
abbrev with_a : Room
with_a = room_of (of_ann a File 0 [] ∷ of_ann [] Folder 32 [] ∷ [])

abbrev without_a : Room
without_a = room_of (of_ann [] Folder 32 [] ∷ [])

same_root : view with_a bob [] ≡ view without_a bob []
same_root = refl

there_shows : (effect with_a bob (C.Stat a)).reply ≡ NotDone (record { code = Access; place = Some (a, 128) })
there_shows = refl

absence_shows : (effect without_a bob (C.Stat a)).reply ≡ NotDone (record { code = NoEnt; place = None })
absence_shows = refl

-- its kind
abbrev with_folder_a : Room
with_folder_a = room_of (of_ann a Folder 0 [] ∷ of_ann [] Folder 32 [] ∷ [])

file_shows : (effect with_a bob (C.Read a)).reply ≡ NotDone (record { code = Access; place = Some (a, 1) })
file_shows = refl

folder_shows : (effect with_folder_a bob (C.Read a)).reply ≡ NotDone (record { code = IsDir; place = None })
folder_shows = refl

-- its own rights, those that no command needs among them
abbrev with_right : Room
with_right = room_of (of_ann a File 256 [] ∷ of_ann [] Folder 32 [] ∷ [])

right_shows : (effect with_right bob (C.Access 256 a)).reply ≡ Allowed 256
right_shows = refl

lack_shows : (effect with_a bob (C.Access 256 a)).reply ≡ Allowed 0
lack_shows = refl

-- the size, to whoever may append
abbrev but_size : Sight → Sight
but_size s = record s { size = None }

abbrev long : Room
long = room_of (of_ann a File 4 (codes "hi") ∷ of_ann [] Folder 32 [] ∷ [])

abbrev short : Room
short = room_of (of_ann a File 4 [] ∷ of_ann [] Folder 32 [] ∷ [])

all_but_size : view_less but_size long bob a ≡ view_less but_size short bob a
all_but_size = refl

long_shows : (effect long bob (C.Append [] a)).reply ≡ Size 2
long_shows = refl

short_shows : (effect short bob (C.Append [] a)).reply ≡ Size 0
short_shows = refl

-- the depth, to whoever may remove: first whether a folder is empty
abbrev but_depth_alone : Sight → Sight
but_depth_alone s = record s { depth = None }

abbrev holding : Room
holding = room_of (of_ann a_b File 0 [] ∷ of_ann a Folder 65536 [] ∷ of_ann [] Folder 32 [] ∷ [])

abbrev empty : Room
empty = room_of (of_ann a Folder 65536 [] ∷ of_ann [] Folder 32 [] ∷ [])

all_but_depth : view_less but_depth_alone holding bob a ≡ view_less but_depth_alone empty bob a
all_but_depth = refl

nothing_inside : view holding bob a_b ≡ view empty bob a_b
nothing_inside = refl

holding_shows : (effect holding bob (C.Remove a)).reply ≡ NotDone (record { code = NotEmpty; place = None })
holding_shows = refl

empty_shows : (effect empty bob (C.Remove a)).reply ≡ Done
empty_shows = refl

-- then how far it goes: fourteen folders, one in another, to move it into
abbrev nest : ℕ → Path → List (Path × Object)
nest zero path = []
nest (suc n) path = of_ann (path ++ codes "d" ∷ []) Folder 36 [] ∷ nest n (path ++ codes "d" ∷ [])

abbrev deep_place : ℕ → Path
deep_place zero = codes "x" ∷ []
deep_place (suc n) = codes "d" ∷ deep_place n

abbrev two_deep : Room
two_deep = room_of (of_ann (codes "a" ∷ codes "b" ∷ codes "c" ∷ []) File 0 [] ∷ of_ann a_b Folder 0 []
    ∷ of_ann a Folder 65536 [] ∷ of_ann [] Folder 32 [] ∷ nest 14 [])

abbrev one_deep : Room
one_deep = room_of (of_ann a_b Folder 0 [] ∷ of_ann a Folder 65536 [] ∷ of_ann [] Folder 32 [] ∷ nest 14 [])

two_shows : (effect two_deep bob (C.Rename a (deep_place 14))).reply ≡ NotDone (record { code = TooDeep; place = None })
two_shows = refl

one_shows : (effect one_deep bob (C.Rename a (deep_place 14))).reply ≡ Done
one_shows = refl

-- and whether the room has a number left, to whoever may add
abbrev new_room : Room
new_room = record { objects = of_ann [] Folder 36 [] ∷ []; left = 999999 }

abbrev used_up : Room
used_up = record { objects = of_ann [] Folder 36 [] ∷ []; left = 0 }

all_but_full : view_less but_full new_room bob [] ≡ view_less but_full used_up bob []
all_but_full = refl

new_shows : (effect new_room bob (C.Mkdir a)).reply ≡ Done
new_shows = refl

used_up_shows : (effect used_up bob (C.Mkdir a)).reply ≡ NotDone (record { code = RoomFull; place = None })
used_up_shows = refl

-- What a caller can come to see by its own commands: in each pair all looks the same to bob at first.

-- how many numbers are left
abbrev one_left : Room
one_left = record { objects = of_ann [] Folder 36 [] ∷ []; left = 1 }

same_at_first : view one_left bob [] ≡ view new_room bob []
same_at_first = refl

left_shows : replies one_left bob (C.Mkdir a ∷ C.Mkdir (codes "b" ∷ []) ∷ [])
    ≡ Done ∷ NotDone (record { code = RoomFull; place = None }) ∷ []
left_shows = refl

many_show : replies new_room bob (C.Mkdir a ∷ C.Mkdir (codes "b" ∷ []) ∷ []) ≡ Done ∷ Done ∷ []
many_show = refl

-- the group of a folder and what it hands down, to whoever may add to it
abbrev of_group : List ℕ → Room
of_group group = room_of (listed [] Folder group 0 (everybody 0 34 ∷ []) [] ∷ [])

groups_look_alike : view (of_group (codes "eng")) bob [] ≡ view (of_group (codes "ops")) bob []
groups_look_alike = refl

abbrev made_of : List ℕ → List ReplyModel
made_of group = replies (of_group group) bob (C.Create [] a ∷ C.SetList 2 (everybody 0 128 ∷ []) a ∷ C.Stat a ∷ [])

abbrev attributes_in : List ℕ → Attributes
attributes_in group = record { aclflag = 2; group = group; kind = File; owner = codes "bob"; size = 0 }

group_shows : made_of (codes "eng") ≡ Size 0 ∷ Done ∷ About (attributes_in (codes "eng")) ∷ []
group_shows = refl

other_group_shows : made_of (codes "ops") ≡ Size 0 ∷ Done ∷ About (attributes_in (codes "ops")) ∷ []
other_group_shows = refl

abbrev handing : ℕ → Room
handing mask = room_of (listed [] Folder (codes "eng") 0 (everybody 0 34 ∷ everybody 9 mask ∷ []) [] ∷ [])

handed_look_alike : view (handing 8) bob [] ≡ view (handing 16) bob []
handed_look_alike = refl

handed_shows : replies (handing 8) bob (C.Create [] a ∷ C.GetList a ∷ [])
    ≡ Size 0 ∷ Entries 1 (everybody 128 8 ∷ []) ∷ []
handed_shows = refl

other_handed_shows : replies (handing 16) bob (C.Create [] a ∷ C.GetList a ∷ [])
    ≡ Size 0 ∷ Entries 1 (everybody 128 16 ∷ []) ∷ []
other_handed_shows = refl

-- a file that follows, to whoever may move it below a folder that hands down READ_DATA
abbrev h : Path
h = codes "h" ∷ []

abbrev h_a : Path
h_a = codes "h" ∷ codes "a" ∷ []

abbrev movable : List ℕ → Room
movable bytes = room_of (listed a File (codes "eng") 1 (everybody 0 65536 ∷ []) bytes
    ∷ listed h Folder (codes "eng") 2 (everybody 0 34 ∷ everybody 9 1 ∷ []) [] ∷ of_ann [] Folder 32 [] ∷ [])

movable_look_alike : view (movable (codes "hi")) bob a ≡ view (movable (codes "ho")) bob a
movable_look_alike = refl

moved_shows : replies (movable (codes "hi")) bob (C.Read a ∷ C.Rename a h_a ∷ C.Read h_a ∷ [])
    ≡ NotDone (record { code = Access; place = Some (a, 1) }) ∷ Done ∷ Bytes (codes "hi") ∷ []
moved_shows = refl

other_moved_shows : replies (movable (codes "ho")) bob (C.Read a ∷ C.Rename a h_a ∷ C.Read h_a ∷ [])
    ≡ NotDone (record { code = Access; place = Some (a, 1) }) ∷ Done ∷ Bytes (codes "ho") ∷ []
other_moved_shows = refl

-- how deep a folder goes, to whoever may remove it and some of what is in it, even where it may add to no folder
abbrev a_b_c : Path
a_b_c = codes "a" ∷ codes "b" ∷ codes "c" ∷ []

abbrev a_d : Path
a_d = codes "a" ∷ codes "d" ∷ []

abbrev branching : List (Path × Object) → Room
branching below_d = room_of (below_d ++ of_ann a_d Folder 0 [] ∷ of_ann a_b_c File 0 [] ∷ of_ann a_b Folder 96 []
    ∷ of_ann a Folder 65568 [] ∷ of_ann [] Folder 32 [] ∷ [])

abbrev longer : Room
longer = branching (of_ann (codes "a" ∷ codes "d" ∷ codes "e" ∷ []) File 0 [] ∷ [])

branches_look_alike : view (branching []) bob a ≡ view longer bob a
branches_look_alike = refl

abbrev depth_seen : Result (Option Sight) Refusal → Option ℕ
depth_seen (Ok (Some s)) = s.depth
depth_seen seen = None

abbrev depth_after : Room → Option ℕ
depth_after room = depth_seen (view (effect room bob (C.Remove a_b_c)).room bob a)

depth_shows : (depth_after (branching []) ≡ Some 1) × (depth_after longer ≡ Some 2)
depth_shows = (refl, refl)

-- anything, to whoever may set the list, and so to whoever may take the ownership
abbrev settable : ℕ → List ℕ → Room
settable mask bytes = room_of (of_ann a File mask bytes ∷ of_ann [] Folder 32 [] ∷ [])

settable_look_alike : view (settable 262144 (codes "hi")) bob a ≡ view (settable 262144 (codes "ho")) bob a
settable_look_alike = refl

set_shows : replies (settable 262144 (codes "hi")) bob (C.SetList 2 (everybody 0 1 ∷ []) a ∷ C.Read a ∷ [])
    ≡ Done ∷ Bytes (codes "hi") ∷ []
set_shows = refl

other_set_shows : replies (settable 262144 (codes "ho")) bob (C.SetList 2 (everybody 0 1 ∷ []) a ∷ C.Read a ∷ [])
    ≡ Done ∷ Bytes (codes "ho") ∷ []
other_set_shows = refl

taken_shows : replies (settable 524288 (codes "hi")) bob
    (C.Chown (codes "eng") (codes "bob") a ∷ C.SetList 2 (everybody 0 1 ∷ []) a ∷ C.Read a ∷ [])
    ≡ Done ∷ Done ∷ Bytes (codes "hi") ∷ []
taken_shows = refl

-- and by the plain meaning of a right: attributes, names, bytes and the list
abbrev one_file : ℕ → List EntryModel → List ℕ → Room
one_file mask more bytes =
    room_of (listed a File (codes "eng") 2 (everybody 0 mask ∷ more) bytes ∷ of_ann [] Folder 32 [] ∷ [])

attributes_show : (effect (one_file 128 [] (codes "hi")) bob (C.Stat a)).reply
    ≡ About (record { aclflag = 2; group = codes "eng"; kind = File; owner = codes "ann"; size = 2 })
attributes_show = refl

other_attributes_show : (effect (one_file 128 [] []) bob (C.Stat a)).reply
    ≡ About (record { aclflag = 2; group = codes "eng"; kind = File; owner = codes "ann"; size = 0 })
other_attributes_show = refl

abbrev closed : List (Path × Object) → Room
closed inside = room_of (inside ++ of_ann a Folder 1 [] ∷ of_ann [] Folder 32 [] ∷ [])

behind_closed : view (closed (of_ann a_b File 0 [] ∷ [])) bob a_b ≡ view (closed []) bob a_b
behind_closed = refl

names_show : (effect (closed (of_ann a_b File 0 [] ∷ [])) bob (C.ListNames a)).reply ≡ Names ((codes "b", File) ∷ [])
names_show = refl

no_names_show : (effect (closed []) bob (C.ListNames a)).reply ≡ Names []
no_names_show = refl

bytes_show : (effect (one_file 1 [] (codes "hi")) bob (C.Read a)).reply ≡ Bytes (codes "hi")
bytes_show = refl

other_bytes_show : (effect (one_file 1 [] (codes "ho")) bob (C.Read a)).reply ≡ Bytes (codes "ho")
other_bytes_show = refl

list_shows : (effect (one_file 131072 (everybody 0 8 ∷ []) []) bob (C.GetList a)).reply
    ≡ Entries 2 (everybody 0 131072 ∷ everybody 0 8 ∷ [])
list_shows = refl

other_list_shows : (effect (one_file 131072 (everybody 0 131072 ∷ []) []) bob (C.GetList a)).reply
    ≡ Entries 2 (everybody 0 131072 ∷ everybody 0 131072 ∷ [])
other_list_shows = refl

-- what the folder above hands down, to whoever may set the list of what is in it
abbrev below_handing : ℕ → Room
below_handing mask = room_of (listed a File (codes "eng") 2 (everybody 0 393216 ∷ []) []
    ∷ listed [] Folder (codes "eng") 0 (everybody 0 32 ∷ everybody 9 (mask + 131072) ∷ []) [] ∷ [])

below_handing_look_alike : view (below_handing 8) bob a ≡ view (below_handing 16) bob a
below_handing_look_alike = refl

below_handing_shows : replies (below_handing 8) bob (C.SetList 1 [] a ∷ C.GetList a ∷ [])
    ≡ Done ∷ Entries 1 (everybody 128 131080 ∷ []) ∷ []
below_handing_shows = refl

other_below_handing_shows : replies (below_handing 16) bob (C.SetList 1 [] a ∷ C.GetList a ∷ [])
    ≡ Done ∷ Entries 1 (everybody 128 131088 ∷ []) ∷ []
other_below_handing_shows = refl
