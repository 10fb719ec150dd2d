-- Examples that compute: a folder that ann makes where bob may not look does not show to bob, though it takes one of
-- the numbers that are left; and what shows of it where he may look.
use Rattle.room_commands.proofs.Common.{◌≡◌, ◌<◌, ℕ, refl, sym, arith, inl, inr, [], ◌∷◌, ◌++◌, true, false, None}
use Rattle.room_commands.proofs.Common.{codes, Some, and_from, both_ways, Folder, SubjectModel, Path, is_file_name}
use Rattle.room_commands.proofs.Common.{IsFileName, IsPath, Room, IsRoom, fresh_room, fresh_object, none_is_some}
use Rattle.room_commands.proofs.Common.{found_stands, Done, About, NotDone, Attributes, NoEnt, Access, NotEmpty}
use Rattle.room_commands.proofs.Common.{Everyone, effect, LooksAlike, StayAlike, HasNoPower, Own, Other, replies_among}
use Rattle.room_commands.proofs.Common.{may, may_remove, view, IsOutOfSight, AddsNowhere, rights_at, ListUnseen, walk}
use Rattle.room_commands.proofs.Common.{is_at_or_below, read_acl, length, drop}
use Rattle.std.specs.Str.{IsUtf8}
use Rattle.std.proofs.lemmas.Str.{IsUtf8-from_ascii, is_utf8-from_IsUtf8}
use Rattle.std.proofs.lemmas.Str.Ascii.{IsAscii-nil, IsAscii-cons}
use Rattle.room_records.proofs.PathParts.{path_of_names}
use Rattle.room_records.proofs.FreshRoom.{fresh_is_room}
use Rattle.room_commands.specs.CommandModel as C
use Rattle.room_commands.proofs.Shorthands.{replies}
use Rattle.room_commands.proofs.ListsUnseen.{unseen_setlist}
use Rattle.room_commands.proofs.EffectIsRoom.{effect_is_room}
use Rattle.room_commands.proofs.Unseen.{done_unseen}
use Rattle.room_commands.proofs.NamesUnseen.{NameUnseen, shown_unnamed}
use Rattle.room_commands.proofs.RoomsRenamed.{rest_below}

abbrev ann : SubjectModel
ann = record { name = codes "ann"; groups = [] }

abbrev bob : SubjectModel
bob = record { name = codes "bob"; groups = codes "eng" ∷ [] }

abbrev h : Path
h = codes "h" ∷ []

abbrev h_a : Path
h_a = codes "h" ∷ codes "a" ∷ []

abbrev start : Room
start = fresh_room (codes "ann") (codes "eng")

-- bob's group may list the root and pass it, and /h is of another group
abbrev locked : Room
locked = record {
  objects = (h, record { kind = Folder; owner = codes "ann"; group = codes "ops"; aclflag = 1; own = []; bytes = [] })
      ∷ ([], fresh_object (codes "ann") (codes "eng")) ∷ [];
  left = 999998;
}

ascii_name : (b : ℕ) → b < 128 → IsUtf8 (b ∷ [])
ascii_name b small = IsUtf8-from_ascii (b ∷ []) (IsAscii-cons b [] small IsAscii-nil)

h_is_name : IsFileName (codes "h")
unfolding is_file_name
h_is_name = and_from _ _ (is_utf8-from_IsUtf8 (codes "h") (ascii_name 104 (omega arith))) refl

a_is_name : IsFileName (codes "a")
unfolding is_file_name
a_is_name = and_from _ _ (is_utf8-from_IsUtf8 (codes "a") (ascii_name 97 (omega arith))) refl

h_lawful : IsPath h
h_lawful = path_of_names h (omega arith) (h_is_name, tt)

h_a_lawful : IsPath h_a
h_a_lawful = path_of_names h_a (omega arith) (h_is_name, (a_is_name, tt))

locked_is : (effect (effect start ann (C.Mkdir h)).room ann (C.Chown (codes "ops") (codes "ann") h)).room ≡ locked
locked_is = refl

is_room : IsRoom locked
is_room = effect_is_room (effect start ann (C.Mkdir h)).room ann (C.Chown (codes "ops") (codes "ann") h)
    (refl, refl, h_lawful)
    (effect_is_room start ann (C.Mkdir h) h_lawful (fresh_is_room (codes "ann") (codes "eng")))

no_power : HasNoPower bob locked h_a
no_power [] rest is walked = (refl, refl)
no_power (x ∷ []) rest is walked = let first : x ≡ codes "h" = cc in rw first (refl, refl)
no_power (x ∷ y ∷ front) rest is walked =
    let first : x ≡ codes "h" = cc in absurd (none_is_some _ (sym (rw first at walked)))

out_of_sight : IsOutOfSight bob locked h_a
out_of_sight = (refl, λ walked. (refl, refl), no_power)

adds_nowhere : AddsNowhere bob locked
adds_nowhere folder o at is_folder walked = elim (found_stands locked.objects folder o at) [
  | inl here ↦ rw (← here.0) refl
  | inr others ↦ elim others [ inl here ↦ rw (← here.0) refl | inr none ↦ absurd none ]
]

it_is_made : (effect locked ann (C.Mkdir h_a)).reply ≡ Done
it_is_made = refl

it_takes_a_number : (effect locked ann (C.Mkdir h_a)).room.left ≡ 999997
it_takes_a_number = refl

bob_sees_nothing : StayAlike bob locked (effect locked ann (C.Mkdir h_a)).room
bob_sees_nothing =
    done_unseen locked bob ann (C.Mkdir h_a) h_a_lawful is_room out_of_sight out_of_sight (inr adds_nowhere)

bobs_answers : replies_among locked bob
    (Own (C.ListNames []) ∷ Other ann (C.Mkdir h_a) ∷ Own (C.ListNames []) ∷ Own (C.Stat h_a) ∷ [])
    ≡ replies locked bob (C.ListNames [] ∷ C.ListNames [] ∷ C.Stat h_a ∷ [])
bobs_answers = refl

-- ann seals the list of that folder, which does not show to bob either
abbrev sealed : Room
sealed = (effect locked ann (C.SetList 2 [] h)).room

sealed_unseen : ListUnseen bob locked sealed h
sealed_unseen = record { rights = rights; lists = lists; attributes = λ reached. refl }
  where
    rights : (rest : Path) → walk locked bob (h ++ rest) ≡ None
        → rights_at locked bob (h ++ rest) ≡ rights_at sealed bob (h ++ rest)
    rights [] reached = refl
    rights (name ∷ rest) reached = absurd (none_is_some _ (sym reached))

    lists : (rest : Path) → walk locked bob (h ++ rest) ≡ None → may locked bob (h ++ rest) read_acl ≡ false
    lists [] reached = refl
    lists (name ∷ rest) reached = absurd (none_is_some _ (sym reached))

bob_sees_no_list : LooksAlike bob locked sealed
bob_sees_no_list = unseen_setlist locked bob ann h 2 [] None sealed_unseen

-- and whether or not bob may add elsewhere, all looks alike to him as long as a number is left
name_unseen : NameUnseen bob locked (effect locked ann (C.Mkdir h_a)).room h_a
name_unseen = record {
  unlisted = λ walked. (refl, refl);
  depth = λ front above walked removes. absurd (both_ways (may_remove locked bob front)
      (no_power front (drop (length front) h_a) (rest_below front h_a above) walked).0 removes);
}

bob_sees_no_name : LooksAlike bob locked (effect locked ann (C.Mkdir h_a)).room
bob_sees_no_name q = sym (shown_unnamed locked bob ann (C.Mkdir h_a) h_a_lawful is_room q name_unseen name_unseen
    (inl refl) (λ below. refl, λ below. refl))

-- but with some right of bob's on the folder something of it shows
abbrev opened : ℕ → Room
opened mask =
    (effect locked ann (C.SetList 1 (record { allow = true; flags = 0; mask = mask; who = Everyone } ∷ []) h)).room

abbrev later : ℕ → Room
later mask = (effect (opened mask) ann (C.Mkdir h_a)).room

-- with EXECUTE that the name is taken, and nothing else
name_was_free : (effect (opened 32) bob (C.Stat h_a)).reply ≡ NotDone (record { code = NoEnt; place = None })
name_was_free = refl

name_shows : (effect (later 32) bob (C.Stat h_a)).reply ≡ NotDone (record { code = Access; place = Some (h_a, 128) })
name_shows = refl

removes_none : (front rest : Path) → h_a ≡ front ++ rest → may_remove (opened 32) bob front ≡ false
removes_none [] rest is = refl
removes_none (x ∷ []) rest is = let first : x ≡ codes "h" = cc in rw first refl
removes_none (x ∷ y ∷ []) rest is = let first : x ≡ codes "h" = cc in rw first refl
removes_none (x ∷ y ∷ z ∷ front) rest is = cc

opened_is_room : IsRoom (opened 32)
opened_is_room = effect_is_room locked ann
    (C.SetList 1 (record { allow = true; flags = 0; mask = 32; who = Everyone } ∷ []) h)
    (refl, (record { flags = refl; mask = refl; who = refl; kind = refl }, tt), h_lawful) is_room

only_the_name_unseen : NameUnseen bob (opened 32) (later 32) h_a
only_the_name_unseen = record {
  unlisted = λ walked. (refl, refl);
  depth = λ front above walked removes. absurd (both_ways (may_remove (opened 32) bob front)
      (removes_none front (drop (length front) h_a) (rest_below front h_a above)) removes);
}

only_the_name_shows : (q : Path) → is_at_or_below q h_a ≡ false → view (later 32) bob q ≡ view (opened 32) bob q
only_the_name_shows q away = shown_unnamed (opened 32) bob ann (C.Mkdir h_a) h_a_lawful opened_is_room q
    only_the_name_unseen only_the_name_unseen (inl refl) (
      λ below. absurd (both_ways (is_at_or_below q h_a) away below),
      λ below. absurd (both_ways (is_at_or_below q h_a) away below),
    )

others_answered : replies (later 32) bob (C.ListNames [] ∷ C.Stat h ∷ C.Mkdir (codes "h" ∷ codes "b" ∷ []) ∷ [])
    ≡ replies (opened 32) bob (C.ListNames [] ∷ C.Stat h ∷ C.Mkdir (codes "h" ∷ codes "b" ∷ []) ∷ [])
others_answered = refl

-- with READ_ATTRIBUTES how many names there are
abbrev in_h : ℕ → Attributes
in_h size = record { aclflag = 1; group = codes "ops"; kind = Folder; owner = codes "ann"; size = size }

was_nought : (effect (opened 128) bob (C.Stat h)).reply ≡ About (in_h 0)
was_nought = refl

size_shows : (effect (later 128) bob (C.Stat h)).reply ≡ About (in_h 1)
size_shows = refl

-- and with DELETE whether there is one
was_empty : (effect (opened 65536) bob (C.Remove h)).reply ≡ Done
was_empty = refl

depth_shows : (effect (later 65536) bob (C.Remove h)).reply ≡ NotDone (record { code = NotEmpty; place = None })
depth_shows = refl
