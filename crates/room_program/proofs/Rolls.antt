-- The users that count in a connection were given by the roster's file.
use Rattle.room_program.proofs.Common.{ℕ, zero, suc, List, Result, Ok, Err, sym, subst, inl, inr, View, Fault}
use Rattle.room_program.proofs.Common.{Call, Exchange, ServesEach, Listens, Comes, GaveOnce, Rereads, Roll, ServedTo}
use Rattle.room_program.proofs.Common.{TakesRoll, rosters_in, rosters_over}
use Rattle.std.specs.List.{AllByRecursion}

module _ {M C : Type 0} (does : M → Call C → M → Type 0) (path : List ℕ) where
  -- those of the first roll
  pub gave_first : (old new : M) (first : Roll) → TakesRoll does path old new first
      → GaveOnce does path first.users
  gave_first old new first took = (old, new, (first.text, took.read, took.gives))

  -- and those that count as the file was read again
  gave_again : (was is : Roll) (old new : M) → Rereads does path was is old new → GaveOnce does path was.users
      → GaveOnce does path is.users
  gave_again was is old new (text, read, did, inl (held, same, still)) gave =
      subst (λ (r : Roll). GaveOnce does path r.users) (sym same) gave
  gave_again was is old new (text, read, did, inr (other, inl (gives, same, still))) gave =
      (old, read, (text, did, gives))
  gave_again was is old new (text, read, did, inr (other, inr (why, fails, kept, warned))) gave =
      subst (λ (r : Roll). GaveOnce does path r.users) (sym kept) gave

  module _ {S : Type 0} (view : S → View) (accepts : M → Exchange → M → Type 0) where
    gave_each : (n : ℕ) (old new : M × Roll) (before after : S)
        (each : ServesEach (Comes does accepts path) (ServedTo view) n old new before after)
        → GaveOnce does path old.1.users → GaveOnce does path new.1.users
        × AllByRecursion (GaveOnce does path) (rosters_over (Comes does accepts path) view n old new before after each)
    gave_each zero old new before after none gave =
        (subst (λ (l : M × Roll). GaveOnce does path l.1.users) (sym none.0) gave, tt)
    gave_each (suc n) old new before after
        (last, between, each, (v, comes, served)) gave =
        let (now, all) = gave_each n old last before between each gave in
        let next = gave_again last.1 new.1 comes.came comes.looked comes.reread now in
        (next, (subst (GaveOnce does path) (sym comes.users) next, all))

    pub gave_all : (fails : M → M → Type 0) (first : Roll) (port count : ℕ) (taken later : M) (before after : S)
        (done : Result (Unit {0}) Fault)
        (listens : Listens does accepts fails view path first port count taken later before after done)
        → GaveOnce does path first.users → AllByRecursion (GaveOnce does path)
        (rosters_in does accepts fails view path first port count taken later before after done listens)
    gave_all fails first port count taken later before after done (inl none) gave = tt
    gave_all fails first port count taken later before after (Ok done) (inr (bound, did, all)) gave =
        (gave_each count (bound, first) (later, all.served.0) before after all.served.1 gave).1
    gave_all fails first port count taken later before after (Err why) (inr (bound, did, all)) gave =
        (gave_each all.fewer.1.0 (bound, first) all.fewer.1.2 before after all.fewer.1.3 gave).1
