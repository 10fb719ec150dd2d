-- A list of names, read from the front.
use Rattle.std.proofs.Common.{◌≡◌, ℕ, List, [], ◌∷◌, ◌++◌, refl, sym, ap, ◌∙◌, append_assoc, append-nil}
use Rattle.std.specs.List.{AllByRecursion}
use Rattle.toml.specs.Data.{Data, string, Items, item}
use Rattle.room_roster.specs.Rosters.{list_of_names}

-- `done` are the values in front of `rest`: with any values that the rest stands for they are the whole, and so back
pub record Reads {A T : Type 0} (made_of : List A → T) (all rest : T) (done : List A) : Type 0 where
  pub on : (more : List A) → rest ≡ made_of more → all ≡ made_of (done ++ more)
  pub back : (whole : List A) → all ≡ made_of whole
      → (more : List A) × (whole ≡ done ++ more) × (rest ≡ made_of more)

module _ {A T : Type 0} (made_of : List A → T) (all : T) where
  pub reads_none : Reads made_of all all []
  reads_none = record { on = λ more e. e; back = λ whole e. (whole, refl, e) }

  pub reads_all : (done : List A) → Reads made_of all (made_of []) done → all ≡ made_of done
  reads_all done r = r.on [] refl ∙ ap made_of (append-nil done)

more_is : (rest : Items) (done whole more : List (List ℕ)) (name : List ℕ) (d : Data)
    → d ≡ string name → whole ≡ done ++ more → item d rest ≡ list_of_names more
    → (next : List (List ℕ)) × (whole ≡ (done ++ name ∷ []) ++ next) × (rest ≡ list_of_names next)
more_is rest done whole [] name d is whole_is r = cc
more_is rest done whole (other ∷ more) name d is whole_is r =
    let same : other ≡ name = cc in
    let behind : rest ≡ list_of_names more = cc in
    (more, whole_is ∙ ap (λ n. done ++ n ∷ more) same ∙ sym (append_assoc done (name ∷ []) more), behind)

pub reads_more : (all rest : Items) (done : List (List ℕ)) (name : List ℕ) (d : Data)
    → d ≡ string name → Reads list_of_names all (item d rest) done → Reads list_of_names all rest (done ++ name ∷ [])
reads_more all rest done name d is r = record {
  on = λ more e. r.on (name ∷ more) (cc) ∙ ap list_of_names (sym (append_assoc done (name ∷ []) more));
  back = λ whole e. let (more, whole_is, rest_is) = r.back whole e in
      more_is rest done whole more name d is whole_is rest_is;
}

pub all_here : {A : Type 0} (P : A → Type 0) (front back : List A) (x : A) → AllByRecursion P (front ++ x ∷ back) → P x
all_here P [] back x all = all.0
all_here P (y ∷ front) back x all = all_here P front back x all.1

named_here : (P : List ℕ → Type 0) (done more : List (List ℕ)) (d : Data) (rest : Items)
    → item d rest ≡ list_of_names more → AllByRecursion P (done ++ more) → (name : List ℕ) × (d ≡ string name) × P name
named_here P done [] d rest e all = cc
named_here P done (name ∷ more) d rest e all = let is : d ≡ string name = cc in
    (name, is, all_here P done more name all)

-- the next one of names that are all there
pub next_name : (P : List ℕ → Type 0) (all rest : Items) (done whole : List (List ℕ)) (d : Data)
    → Reads list_of_names all (item d rest) done → all ≡ list_of_names whole → AllByRecursion P whole
    → (name : List ℕ) × (d ≡ string name) × P name
next_name P all rest done whole d r e every =
    let (more, whole_is, rest_is) = r.back whole e in
    named_here P done more d rest rest_is (rw (← whole_is) every)
