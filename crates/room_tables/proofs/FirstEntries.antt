-- An object whose row was just added has no entries, and is given its first ones.
use Rattle.room_tables.proofs.Common.{Global, Vec, ◌≡◌, ◌==◌, ℕ, pos, false, cond, IsTrue, List, [], ◌∷◌, map, filter}
use Rattle.room_tables.proofs.Common.{Ok, inl, inr, refl, sym, ap, subst, ◌∙◌, arith, cases_Bool, Row, rowid, has_rowid}
use Rattle.room_tables.proofs.Common.{filter_none, all_from, Database, State, ExecutesInside, EntryModel, Node}
use Rattle.room_tables.proofs.Common.{PutEntries, apply_change, has, entry_of, entries_shown, entries_in, records_of}
use Rattle.room_tables.proofs.Common.{IsVersion, IsRoomDatabase, Steps, SeesSound, Lists}
use Rattle.room_tables.proofs.Texts.{add_node_text}
use Rattle.room_tables.proofs.Filters.{same_test}
use Rattle.room_tables.proofs.Effects.{params_of_node, node_added, id_is}
use Rattle.room_tables.proofs.Drops.{no_entries}
use Rattle.room_tables.proofs.Placed.{lists_stored, lists_records}

-- an INSERT that answers Ok tells that no row had the number of its node
pub none_before : (old new : State) (node : Node) (name : List ℕ) (params : Row) (count : ℕ) → IsRoomDatabase old.now
    → params ≡ params_of_node node name → ExecutesInside 0 add_node_text params old new (Ok count)
    → filter (has 0 node.id) (old.now.trees 1) ≡ []
none_before old new node name params count room params_are ran =
    let h = subst (λ p. ExecutesInside 0 add_node_text p old new (Ok count)) params_are ran in
    let it = (node_added old new node name count (λ _. ⊥) room h).put in
    let id : it.id ≡ pos node.id = id_is (sym it.has_id ∙ ap rowid it.fits) in
    filter_none (has 0 node.id) (old.now.trees 1)
    (all_from (λ r. has 0 node.id r ≡ false) (old.now.trees 1) (λ r there. elim (cases_Bool (has 0 node.id r)) [
      | inl mine ↦ absurd (it.gone r there (ap (λ i. has_rowid i r) id ∙ same_test node.id r ∙ mine))
      | inr other ↦ other
    ]))

-- entries would have referred to a node that was not there
pub added_bare : (old new : State) (node : Node) (name : List ℕ) (params : Row) (count : ℕ) → IsRoomDatabase old.now
    → params ≡ params_of_node node name → ExecutesInside 0 add_node_text params old new (Ok count) → SeesSound old
    → (records_of new.now.trees).objects.entries node.id ≡ []
added_bare old new node name params count room params_are ran sound =
    let h = subst (λ p. ExecutesInside 0 add_node_text p old new (Ok count)) params_are ran in
    let it = (node_added old new node name count (λ _. ⊥) room h).put in
    ap (λ rows. entries_in rows node.id) (it.others.entry (omega arith))
    ∙ ap (λ rows. map entry_of (entries_shown rows)) (no_entries room.layout old.now node.id room.schema
    (sound h.1.was_open) (none_before old new node name params count room params_are ran))

none_mapped : {X Y : Type 0} (f : X → Y) (xs : List X) → map f xs ≡ [] → xs ≡ []
none_mapped f [] none = refl
none_mapped f (x ∷ xs) none = absurd (let e = none in cc)

-- before the first of its entries is put in
pub lists_bare : (db : Database) (id : ℕ) → IsRoomDatabase db → (records_of db.trees).objects.entries id ≡ []
    → Lists db id [] db
lists_bare db id room none =
    lists_stored db id [] room (none_mapped entry_of (entries_shown (filter (has 1 id) (db.trees 3))) none) tt

-- after the last the records are changed so
pub lists_steps : (old new : State) (id : ℕ) (entries : Vec EntryModel Global) (es : List EntryModel)
    → es ≡ entries.items → (IsTrue new.is_open → IsTrue old.is_open) → Lists old.now id es new.now
    → Steps old new (apply_change (PutEntries id entries))
lists_steps old new id entries es is was_open it =
    let before = records_of old.now.trees in
    record {
      room = it.room;
      schema = it.schema;
      records = lists_records old.now id es new.now it ∙ ap (λ l. record before {
        objects = record before.objects {
          entries = λ q.
              cond (q == id) l (before.objects.entries q);
        };
      }) is;
      version = subst (IsVersion 2) (sym it.version);
      sound = λ s is. it.sound (s (was_open is));
      lists = it.sound;
    }
