-- A query whose rows are read one at a time: each call finds the connection as the first one did.
use Rattle.room_tables.proofs.Common.{◌≡◌, ℕ, true, List, [], None, Result, Ok, Err, inl, inr, sym, subst, Row, Trees}
use Rattle.room_tables.proofs.Common.{first, Compiled, CompileError, timed, Database, RefusesToRead, understood}
use Rattle.room_tables.proofs.Common.{reads_listing, IsSourceOf, State, Survives, FailsToQuery, FailsToShow}
use Rattle.room_tables.proofs.Common.{IsStatement, IsNotRun, IsUnchanged, Error, unchanged_then}
use Rattle.sqlite_trees.specs.declared.store.Store.{Ghosts}
use Rattle.sqlite.specs.Held.{Held, state}
use Rattle.sqlite.specs.Given.{HasGiven, HasBegun, Returns}
use Rattle.sqlite.proofs.StreamLemmas.{fails_since}
use Rattle.room_tables.proofs.Queries.{is_query_text, unreturned, IsUnreturned}

never_both : (r : Result Compiled CompileError) → IsUnreturned r → ¬ Returns r
never_both (Ok c) none some = absurd (let bad = rw none at some in cc)
never_both (Err e) none some = some

-- a query begins with no row at hand, whatever the schema
pub query_begins : {S : Type 0} (g : Ghosts S) (sql : List ℕ) (params : Row) (old new : Held S)
    → is_query_text (first sql) ≡ true → HasBegun g sql params old new
    → HasGiven g sql params new [] × IsUnchanged (state g old) (state g new)
query_begins g sql params old new selects (inl h) = h
query_begins g sql params old new selects (inr h) =
    absurd (never_both _ (unreturned old.schema sql selects) h.0)

module _ (sql : List ℕ) (params : Row) (a b : State) (same : IsUnchanged a b) where
  abbrev statement_from : (c : Compiled) → IsStatement b sql params c → IsStatement a sql params c
  statement_from c h = record {
    is = subst (λ (d : Database). understood d.schema sql ≡ Ok c) same.0.now_is h.is;
    whole = h.whole;
    given = h.given;
    now = h.now;
  }

  source_from : (db : Database) → IsSourceOf (reads_listing b.now.schema sql) b.now db
      → IsSourceOf (reads_listing a.now.schema sql) a.now db
  source_from db = subst (λ (d : Database). IsSourceOf (reads_listing d.schema sql) d db) same.0.now_is

-- a query that fails later fails as seen from the first
pub fails_on : (sql : List ℕ) (params : Row) (a b c : State) (P : Trees → Type 0) (e : Error)
    → is_query_text (first sql) ≡ true → IsUnchanged a b → Survives a b P
    → FailsToQuery sql params b c e → FailsToQuery sql params a c e
unfolding FailsToQuery IsNotRun
fails_on sql params a b c P e selects same s (inl (inl h)) =
    inl (inl (rw (← same.0.now_is) h.0, unchanged_then a b c same h.1))
fails_on sql params a b c P e selects same s (inl (inr h)) = inl (inr (fails_since a b c same s.counts e h))
fails_on sql params a b c P e selects same s (inr h) =
    let none : h.0.returning ≡ None = subst IsUnreturned h.1.is (unreturned b.now.schema sql selects) in
    let full = timed params h.0.formats h.1.now in
    let it = subst (FailsToShow b c sql h.0 full e) none h.2 in
    let shown : FailsToShow a c sql h.0 full e None = (
      it.0,
      source_from sql params a b same it.0 it.1,
      subst (λ limit. RefusesToRead limit h.0.command it.0 full e) s.limit it.2,
      unchanged_then a b c same it.3,
    ) in
    inr (h.0, statement_from sql params a b same h.0 h.1, subst (FailsToShow a c sql h.0 full e) (sym none) shown)
