-- What equality of names, one after another, says of lists and of subjects.
use Rattle.room_acl.proofs.Common.{◌≡◌, ◌≢◌, List, true, false, ℕ, refl, ap₂, SubjectModel}
use Rattle.std.specs.Cmp.Lexicographic.{pointwise}
use Rattle.std.specs.Str.{bytes_eq}
use Rattle.std.proofs.lemmas.Bool.Decides.{not_from_Decides}
use Rattle.std.proofs.lemmas.Slice.Eq.{slice_eq-Decides, bytes_eq-Decides}

abbrev pub subject_of : List ℕ → List (List ℕ) → SubjectModel
subject_of name groups = record { name = name; groups = groups }

pub same_subject : {n m : List ℕ} {g h : List (List ℕ)} → bytes_eq n m ≡ true → pointwise bytes_eq g h ≡ true →
    subject_of n g ≡ subject_of m h
same_subject names groups = ap₂ subject_of ((bytes_eq-Decides _ _).0 names)
    ((slice_eq-Decides bytes_eq-Decides _ _ _ refl).0 groups)

pub other_groups : (xs ys : List (List ℕ)) → pointwise bytes_eq xs ys ≡ false → xs ≢ ys
other_groups xs ys = not_from_Decides _ (slice_eq-Decides bytes_eq-Decides xs ys _ refl)
