-- What puts a row: an upsert of a session, and an UPDATE and an INSERT of a row of node, doc and room.
use Rattle.room_tables.proofs.Common.{◌≡◌, ◌==◌, ℕ, ℤ, pos, true, false, List, [], ◌∷◌, length, drop, Option, None}
use Rattle.room_tables.proofs.Common.{Some, Ok, refl, sym, ap, ap₂, subst, arith, ◌∙◌, nat_tests, Null, Int, Text, Blob}
use Rattle.room_tables.proofs.Common.{Row, column, first_key, Trees, rowid, list_all, Term, eval_all, holds, overlay}
use Rattle.room_tables.proofs.Common.{everything, understood, Table, works, pairs, next_rowid, numbered, Chosen, is_int}
use Rattle.room_tables.proofs.Common.{cast, cast_row, Enforced, Integer, Database, State, Executes, Layout, Fresh}
use Rattle.room_tables.proofs.Common.{Upgraded, room_schema, room_table, node_table, doc_table, session_table, has}
use Rattle.room_tables.proofs.Common.{has_text, IsKeyed, parent_value}
use Rattle.sqlite_rules.specs.Keys.{conflicts}
use Rattle.room_tables.proofs.Texts as T
use Rattle.room_tables.proofs.Meaning.{change_next_means, put_session_means}
use Rattle.room_tables.proofs.Queries.{and_true, tidy}
use Rattle.room_tables.proofs.Takes.{set_off, quiet}
use Rattle.room_tables.proofs.Writes.{IsUpdate, Changes, changes_row, adds_row}
use Rattle.room_tables.proofs.Values.{has_int, has_text_value}
use Rattle.room_tables.proofs.Changes.{cast_null, cast_int}
use Rattle.room_tables.proofs.Upserts.{PutInto, IsUpsert, put}

-- an UPDATE of the row with a number, behind whose rowid and the column of the key it writes what no row tells
row_update : (l : Layout) (table : Table) (id : ℕ) (terms project : List Term) (params tail : Row)
    → ((olds : List Row) (new : Row) (news : List Row)
    → works (room_schema l) Enforced 0 table.tree olds (new ∷ news) ≡ [])
    → works (room_schema l) Enforced 0 table.tree [] [] ≡ []
    → ((db : Trees) → overlay db [] table.tree ≡ db table.tree)
    → ((r : Row) → list_all (holds (params ∷ r ∷ [])) terms ≡ has 0 id r)
    → ((r : Row) → eval_all project (params ∷ r ∷ []) ≡ rowid r ∷ rowid r ∷ Null ∷ tail)
    → ((i : ℤ) → cast_row table (Int i ∷ Null ∷ tail) ≡ Int i ∷ Null ∷ tail)
    → IsUpdate l table (has 0 id) terms project params (λ r. r ≡ Int (pos id) ∷ Null ∷ tail)
row_update l table id terms project params tail quiet idle here test reads casts = record {
  quiet = quiet;
  idle = idle;
  here = here;
  test = test;
  raw = λ r. rowid r ∷ Null ∷ tail;
  reads = reads;
  renewed = λ r. rowid r ∷ Null ∷ tail;
  casts = λ r i is. rw is (casts i);
  same_id = λ r. refl;
  refits = λ r i is met.
      ap (λ v. v ∷ Null ∷ tail) (has_int id r (subst (λ v. is_int v ≡ true) (sym is) refl) met);
}

-- ---- node

abbrev pub stored_node : ℕ → Option ℕ → List ℕ → ℕ → List ℕ → List ℕ → ℕ → Row
stored_node id parent name kind owner group aclflag = Int (pos id) ∷ Null ∷ parent_value parent
    ∷ Text name ∷ Int (pos kind) ∷ Text owner ∷ Text group ∷ Int (pos aclflag) ∷ []

cast_parent : (parent : Option ℕ) → cast Integer (parent_value parent) ≡ parent_value parent
cast_parent None = cast_null
cast_parent (Some n) = cast_int (pos n)

node_set_off : (l : Layout) (moves : List (Row × Row)) → (set_off l 0 1 moves false ≡ []) × (set_off l 0 1 [] true ≡ [])
unfolding everything
node_set_off Fresh moves = (refl, refl)
node_set_off Upgraded moves = (refl, refl)

not_empty : {X : Type 0} (x : X) (xs : List X) → (length (x ∷ xs) == 0) ≡ false
not_empty x xs = grind (arith, nat_tests)

-- nothing goes with a node whose row is written: its number stays
node_quiet : (l : Layout) (olds : List Row) (new : Row) (news : List Row)
    → works (room_schema l) Enforced 0 1 olds (new ∷ news) ≡ []
node_quiet l olds new news = subst (λ b. set_off l 0 1 (pairs olds (new ∷ news)) b ≡ [])
    (sym (not_empty new news)) (node_set_off l (pairs olds (new ∷ news))).0

-- and nodes that are added set nothing off
pub nodes_quiet : (l : Layout) (news : List Row) → works (room_schema l) Enforced 0 1 [] news ≡ []
nodes_quiet l [] = (node_set_off l []).1
nodes_quiet l (new ∷ news) = node_quiet l [] new news

abbrev pub node_params : ℕ → Option ℕ → List ℕ → ℕ → List ℕ → List ℕ → ℕ → Row
node_params id parent name kind owner group aclflag =
    Int (pos id) ∷ parent_value parent ∷ Text name ∷ Int (pos kind) ∷ Text owner ∷ Text group ∷ Int (pos aclflag) ∷ []

module _ (l : Layout) (id : ℕ) (parent : Option ℕ) (name : List ℕ) (kind : ℕ) (owner group : List ℕ) (aclflag : ℕ) where
  abbrev params : Row
  params = node_params id parent name kind owner group aclflag

  abbrev stored : Row
  stored = stored_node id parent name kind owner group aclflag

  pub cast_node : (i : ℤ) → cast_row node_table (Int i ∷ Null ∷ drop 1 params) ≡ Int i ∷ Null ∷ drop 1 params
  cast_node i = rw (cast_int i, cast_null, cast_parent parent, cast_int (pos kind), cast_int (pos aclflag))

  pub node_update : IsUpdate l node_table (has 0 id) T.change_node_query.filter T.change_node_query.project params
      (λ r. r ≡ stored)
  node_update = row_update l node_table id _ _ params (drop 1 params) (node_quiet l) (nodes_quiet l []) (λ db. refl)
      (λ r. and_true (has 0 id r)) (λ r. refl) cast_node

  -- what the count of an UPDATE tells
  abbrev pub ChangesNode : ℕ → Database → Database → Type 0
  ChangesNode = Changes l node_table (has 0 id) T.change_node_query.filter T.change_node_query.project
      (node_params id parent name kind owner group aclflag)
      (λ r. r ≡ stored_node id parent name kind owner group aclflag)

  -- an INSERT alone adds the row, and no row had its number
  pub adds_node : (old new : State) (count : ℕ) (Met : Row → Type 0) → old.now.schema ≡ room_schema l
      → Executes T.add_node_text (node_params id parent name kind owner group aclflag) old new (Ok count)
      → PutInto l old.now new.now 1 (λ r. r ≡ stored_node id parent name kind owner group aclflag) Met
  unfolding understood everything
  adds_node old new count Met schema h =
      adds_row l old new 1 node_table _ 8 count T.add_node_text params stored stored (pos id) _ Met refl
      schema refl (refl, (refl, refl)) (nodes_quiet l) refl
      (ap (λ r. numbered Chosen (old.now.trees 1) (r ∷ [])) (cast_node (pos id)))
      refl refl h

-- ---- doc

abbrev pub stored_doc : ℕ → List ℕ → Row
stored_doc id bytes = Int (pos id) ∷ Null ∷ Blob bytes ∷ []

cast_doc : (bytes : List ℕ) (i : ℤ)
    → cast_row doc_table (Int i ∷ Null ∷ Blob bytes ∷ []) ≡ Int i ∷ Null ∷ Blob bytes ∷ []
cast_doc bytes i = rw (cast_int i, cast_null)

abbrev pub doc_params : ℕ → List ℕ → Row
doc_params id bytes = Int (pos id) ∷ Blob bytes ∷ []

pub doc_update : (l : Layout) (id : ℕ) (bytes : List ℕ) → IsUpdate l doc_table (has 0 id) T.change_doc_query.filter
    T.change_doc_query.project (doc_params id bytes) (λ r. r ≡ stored_doc id bytes)
doc_update l id bytes = row_update l doc_table id _ _ (doc_params id bytes) (Blob bytes ∷ [])
    (λ olds new news. (quiet l 0 olds (new ∷ news)).doc) (quiet l 0 [] []).doc (λ db. refl)
    (λ r. and_true (has 0 id r)) (λ r. refl) (cast_doc bytes)

-- the document was put
abbrev pub PutsDoc : Layout → ℕ → List ℕ → Database → Database → Type 0
PutsDoc l id bytes old new = PutInto l old new 5 (λ r. r ≡ stored_doc id bytes) (λ r. has 0 id r ≡ true)

-- what the count of an UPDATE tells
abbrev pub ChangesDoc : Layout → ℕ → List ℕ → ℕ → Database → Database → Type 0
ChangesDoc l id bytes = Changes l doc_table (has 0 id) T.change_doc_query.filter T.change_doc_query.project
    (doc_params id bytes) (λ r. r ≡ stored_doc id bytes)

pub adds_doc : (l : Layout) (old new : State) (id : ℕ) (bytes : List ℕ) (count : ℕ) → old.now.schema ≡ room_schema l
    → Executes T.add_doc_text (doc_params id bytes) old new (Ok count) → PutsDoc l id bytes old.now new.now
unfolding understood everything
adds_doc l old new id bytes count schema h =
    adds_row l old new 3 doc_table _ 3 count T.add_doc_text (doc_params id bytes)
    (stored_doc id bytes) (stored_doc id bytes) (pos id) _ _ refl schema refl (refl, (refl, refl))
    (λ news. (quiet l 0 [] news).doc) refl (ap (λ r. numbered Chosen (old.now.trees 5) (r ∷ [])) (cast_doc bytes
    (pos id))) refl refl h

-- ---- the one row of room

-- of version 2, with this next number
abbrev pub stored_next : ℕ → Row
stored_next n = Int (pos 1) ∷ Null ∷ Int (pos 2) ∷ Int (pos n) ∷ []

pub cast_next : (n : ℕ) (i : ℤ) → cast_row room_table (Int i ∷ Null ∷ Int (pos 2) ∷ Int (pos n) ∷ [])
    ≡ Int i ∷ Null ∷ Int (pos 2) ∷ Int (pos n) ∷ []
cast_next n i = rw (cast_int i, cast_null, cast_int (pos 2), cast_int (pos n))

next_update : (l : Layout) (n : ℕ) → IsUpdate l room_table (has 0 1) T.change_next_query.filter
    T.change_next_query.project (Int (pos n) ∷ []) (λ r. r ≡ stored_next n)
next_update l n = row_update l room_table 1 _ _ (Int (pos n) ∷ []) (Int (pos 2) ∷ Int (pos n) ∷ [])
    (λ olds new news. (quiet l 0 olds (new ∷ news)).room) (quiet l 0 [] []).room (λ db. refl)
    (λ r. and_true (has 0 1 r)) (λ r. refl) (cast_next n)

-- the row was put
abbrev pub PutsNext : Layout → ℕ → Database → Database → Type 0
PutsNext l n old new = PutInto l old new 0 (λ r. r ≡ stored_next n) (λ r. has 0 1 r ≡ true)

-- what the count of an UPDATE tells
abbrev pub ChangesNext : Layout → ℕ → ℕ → Database → Database → Type 0
ChangesNext l n = Changes l room_table (has 0 1) T.change_next_query.filter T.change_next_query.project
    (Int (pos n) ∷ []) (λ r. r ≡ stored_next n)

pub changes_next : (l : Layout) (old new : State) (n count : ℕ) → old.now.schema ≡ room_schema l
    → IsKeyed (old.now.trees 0) → Executes T.change_next_text (Int (pos n) ∷ []) old new (Ok count)
    → ChangesNext l n count old.now new.now
changes_next l old new n count schema keyed h =
    changes_row l room_table 1 T.change_next_query.filter T.change_next_query.project (Int (pos n) ∷ [])
    (λ r. r ≡ stored_next n) (next_update l n) old new 0 count T.change_next_text refl
    (change_next_means l) schema keyed h

pub adds_next : (l : Layout) (old new : State) (n count : ℕ) → old.now.schema ≡ room_schema l
    → Executes T.add_next_text (Int (pos n) ∷ []) old new (Ok count) → PutsNext l n old.now new.now
unfolding understood everything
adds_next l old new n count schema h =
    adds_row l old new 0 room_table _ 4 count T.add_next_text (Int (pos n) ∷ [])
    (stored_next n) (stored_next n) (pos 1) _ _ refl schema refl (refl, (refl, refl))
    (λ news. (quiet l 0 [] news).room) refl (ap (λ r. numbered Chosen (old.now.trees 0) (r ∷ [])) (cast_next n
    (pos 1))) refl refl h

-- ---- session

abbrev pub stored_session : ℤ → List ℕ → List ℕ → ℕ → ℕ → Row
stored_session rowid sid owner slots open_flag =
    Int rowid ∷ Text sid ∷ Text owner ∷ Int (pos slots) ∷ Int (pos open_flag) ∷ []

-- the row of this session, under some rowid
abbrev pub IsSession : List ℕ → List ℕ → ℕ → ℕ → Row → Type 0
IsSession sid owner slots open_flag r = (rowid : ℤ) × (r ≡ stored_session rowid sid owner slots open_flag)

session_quiet_change : (l : Layout) (olds : List Row) (row : Row)
    → works (room_schema l) Enforced 0 6 olds (row ∷ []) ≡ []
unfolding everything
session_quiet_change Fresh olds row = refl
session_quiet_change Upgraded olds row = refl

session_conflict : (l : Layout) (rowid : ℤ) (sid owner : List ℕ) (slots open_flag : ℕ) (r : Row)
    → conflicts (Some (1 ∷ [])) (room_schema l).indexes session_table (stored_session rowid sid owner slots open_flag) r
    ≡ true → has_text 1 sid r ≡ true
unfolding first_key
session_conflict Fresh rowid sid owner slots open_flag r h = sym (tidy (has_text 1 sid r)) ∙ h
session_conflict Upgraded rowid sid owner slots open_flag r h = sym (tidy (has_text 1 sid r)) ∙ h

cast_session : (rowid : ℤ) (sid owner : List ℕ) (slots open_flag : ℕ) → cast_row session_table
    (stored_session rowid sid owner slots open_flag) ≡ stored_session rowid sid owner slots open_flag
cast_session rowid sid owner slots open_flag = rw (cast_int rowid, cast_int (pos slots), cast_int (pos open_flag))

session_upsert : (l : Layout) (rowid : ℤ) (sid owner : List ℕ) (slots open_flag : ℕ)
    → IsUpsert l session_table (1 ∷ []) 4 T.put_session_query.project (Text sid ∷ Text owner
    ∷ Int (pos slots) ∷ Int (pos open_flag) ∷ []) (stored_session rowid sid owner slots open_flag)
    (IsSession sid owner slots open_flag) (λ r. has_text 1 sid r ≡ true)
session_upsert l id sid owner slots open_flag = record {
  uncounted = refl;
  quiet_put = session_quiet_change l [];
  quiet_change = session_quiet_change l;
  here = λ db. refl;
  id = id;
  has_id = refl;
  cast = cast_session id sid owner slots open_flag;
  fits = (id, refl);
  met = session_conflict l id sid owner slots open_flag;
  there_at = λ v. refl;
  raw = λ there. rowid there ∷ column there 1 ∷ Text owner ∷ Int (pos slots) ∷ Int (pos open_flag) ∷ [];
  reads = λ there. refl;
  renewed = λ there. rowid there ∷ cast Rattle.sqlite.specs.Kind.TheVariants.Text (column there 1)
      ∷ Text owner ∷ Int (pos slots) ∷ Int (pos open_flag) ∷ [];
  casts = λ there i is. rw (is, cast_int i, cast_int (pos slots), cast_int (pos open_flag));
  same_id = λ there. refl;
  refits = λ there i is met. (
    i,
    ap₂ (λ v t. v ∷ t ∷ Text owner ∷ Int (pos slots) ∷ Int (pos open_flag) ∷ [])
        is (ap (cast Rattle.sqlite.specs.Kind.TheVariants.Text) (has_text_value 1 sid there met)),
  );
}

pub puts_session : (l : Layout) (old new : State) (sid owner : List ℕ) (slots open_flag count : ℕ)
    → old.now.schema ≡ room_schema l → IsKeyed (old.now.trees 6)
    → Executes T.put_session_text (Text sid ∷ Text owner ∷ Int (pos slots) ∷ Int (pos open_flag) ∷ []) old new
    (Ok count)
    → PutInto l old.now new.now 6 (IsSession sid owner slots open_flag) (λ r. has_text 1 sid r ≡ true)
puts_session l old new sid owner slots open_flag count schema keyed h =
    put l session_table (1 ∷ []) 4 T.put_session_query.project
    (Text sid ∷ Text owner ∷ Int (pos slots) ∷ Int (pos open_flag) ∷ [])
    (stored_session (next_rowid (old.now.trees 6)) sid owner slots open_flag) _ _
    (session_upsert l (next_rowid (old.now.trees 6)) sid owner slots open_flag) old new 4 T.put_session_terms 5 count
    T.put_session_text (Null ∷ Text sid ∷ Text owner ∷ Int (pos slots) ∷ Int (pos open_flag) ∷ [])
    refl schema keyed (put_session_means l) refl (rw (cast_null, cast_int (pos slots), cast_int (pos open_flag)) refl) h
