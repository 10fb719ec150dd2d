-- What is written of an object and what is below it, node after node.
use Rattle.room_report.proofs.Common.{◌≡◌, ℕ, ◌+◌, ◌<◌, ◌≤◌, ap, sym, ◌∙◌, List, [], ◌∷◌, ◌++◌, take, drop, get_or}
use Rattle.room_report.proofs.Common.{length, append_assoc, append-nil, Option, Result, Ok, Err, flat_map}
use Rattle.room_report.proofs.Common.{flat_map-append, take-append-drop, take_more, take_all, Node, Path, ObjectRecords}
use Rattle.room_report.proofs.Common.{IsChild, Room, RepresentsRoom, AreChildren, name_of, Report, IsItem, AppendsFront}
use Rattle.room_report.proofs.Common.{Writes, item_lines, lines_of, text_below}
use Rattle.std.specs.Result.{IsErr}
use Rattle.room_records.proofs.Lists.{all_at}
use Rattle.room_report.specs.declared.item.Item.{Item}
use Rattle.room_report.proofs.Below.{first_below, text_is}
use Rattle.room_report.proofs.Items.{lines_are}

pub err_writes : {X E : Type 0} (a b : Option (List ℕ)) (text : List ℕ) (r : Result X E)
    → IsErr r → AppendsFront a b text → Writes a b text r
err_writes a b text (Ok x) err front = absurd cc
err_writes a b text (Err e) err front = front

module _ (child : Node → List ℕ) (lines : List ℕ) (nodes : List Node) (i : ℕ) where
  abbrev pub so_far : List ℕ
  so_far = lines ++ flat_map child (take i nodes)

  -- what is written and what is left
  pub cut : lines ++ flat_map child nodes ≡ so_far ++ flat_map child (drop i nodes)
  cut =
      ap (λ ns. lines ++ flat_map child ns) (sym (take-append-drop i nodes))
      ∙ ap (λ more. lines ++ more) (flat_map-append child (take i nodes) (drop i nodes))
      ∙ sym (append_assoc lines (flat_map child (take i nodes)) (flat_map child (drop i nodes)))

  -- one node more
  pub next : (node : Node) → i < length nodes → node ≡ get_or nodes i node
      → lines ++ flat_map child (take (i + 1) nodes) ≡ so_far ++ child node
  next node below is =
      ap (λ ns. lines ++ flat_map child ns) (take_more nodes i node below ∙ ap (λ n. take i nodes ++ n ∷ []) (sym is))
      ∙ ap (λ more. lines ++ more) (flat_map-append child (take i nodes) (node ∷ []))
      ∙ sym (append_assoc lines (flat_map child (take i nodes)) (flat_map child (node ∷ [])))
      ∙ ap (λ more. so_far ++ more) (append-nil (child node))

  -- all nodes
  pub done : length nodes ≤ i → so_far ≡ lines ++ flat_map child nodes
  done all = ap (λ ns. lines ++ flat_map child ns) (take_all i nodes all)

pub child_at : (t : ObjectRecords) (id : ℕ) (nodes : List Node) (i : ℕ) (node : Node)
    → AreChildren t id nodes → i < length nodes → node ≡ get_or nodes i node → IsChild t id node
child_at t id nodes i node are below is =
    rw is (all_at (IsChild t id) nodes i node are.each below)

module _ (t : ObjectRecords) (room : Room) (stand : RepresentsRoom t room)
    (path : Path) (item : Item) (is : IsItem t room path item) (report : Report) where
  -- the text begins with the object's own lines
  pub begins : (rest : List ℕ) × (text_below report room path ≡ item_lines report item ++ rest)
  begins =
      let first = first_below room stand.lawful path is.object is.object_stands in (
        flat_map (lines_of report room) first.0,
        ap (flat_map (lines_of report room)) first.1
            ∙ ap (λ lines. lines ++ flat_map (lines_of report room) first.0)
            (sym (lines_are t room path item report is)),
      )

  -- and goes on with what is below each node
  pub text_of_item : (nodes : List Node) → AreChildren t item.id nodes
      → text_below report room path ≡ item_lines report item
      ++ flat_map (λ (node : Node). text_below report room (path ++ name_of node ∷ [])) nodes
  text_of_item nodes are =
      text_is t room stand path item.id is.at is.object is.object_stands nodes are report
      ∙ ap (λ lines. lines ++ flat_map (λ (node : Node). text_below report room (path ++ name_of node ∷ [])) nodes)
      (sym (lines_are t room path item report is))
