use Rattle.room_desk.proofs.Common.{◌≡◌, ◌∙◌, refl, sym, inl, inr, Some, both_ways, cases_Bool, ShelfRead, fault_in}
use Rattle.room_desk.proofs.Common.{Close}
use Rattle.room_desk.proofs.Answers.{close_owned, close_refused}
use Rattle.room_desk.proofs.Closing.{put_rules, all_rules, changes_if_open, close_stands}
use Rattle.room_desk.proofs.Crashes.{leaves_either}
use Rattle.room_desk.proofs.Idle.{refused_is_idle}
use Rattle.room_desk.proofs.Results.{if_ok_both, if_ok_then}
use Rattle.room_desk.proofs.Trying.{tried_after_read, joins_by_commit, joins_by_reads}
use Rattle.room_desk.proofs.sessions.close.Goals as goal

pub returns-then-not-owns : goal.returns-then-not-owns
returns-then-not-owns g c =
    let first = c.in_ok-row.ensures.frame in record {
      there = c.in_ok-row.ensures.there;
      frame = first.call;
      refused = λ h d away. first.same h d;
      joins = λ start past stands. joins_by_reads first stands (λ h d stand.
          let some = sym (c.in_ok-row.ensures.value h d) ∙ c.in-Some.is in
          let told = close_refused stand c.args.sid.now c.in-Some.row some c.args.subject.now
          (sym c.owns.ensures ∙ c.if-not-owns.true) in
          (sym told, refused_is_idle start past (Close c.args.subject.now c.args.sid.now) (rw told tt)));
    }

pub returns : goal.returns
returns g c =
    let done = c.close_owned.ensures in
    let first = c.in_ok-row.ensures.frame in
    tried_after_read first c.in_ok-row.ensures.there done.frame
    (λ h d. if_ok_then c.close_owned.result done.reply (λ answer says away. absurd (rw says at away)))
    (λ start past read d stand.
    let caller = c.args.subject.now in
    let found = g.S.Shelf.view c.session.new.self in
    let some : found.records.session c.args.sid.now ≡ Some c.in-Some.row =
    rw (first.same read d) (sym (c.in_ok-row.ensures.value read d) ∙ c.in-Some.is) in
    let mine = sym c.owns.ensures ∙ c.if-not-owns.false in
    let answered = sym (close_owned stand c.args.sid.now c.in-Some.row some caller mine) in
    let changes = changes_if_open stand caller some mine in
    let laid_out = first.call.frame.laid_out read d in
    let puts = put_rules stand caller some mine in
    let all = all_rules stand caller some mine in
    elim (cases_Bool c.in-Some.row.is_open) [
      | inl is_open ↦ joins_by_commit read (changes ∙ is_open)
          (λ left is. rw is (close_stands stand caller some mine)) (λ left is. rw is refl)
          (λ h. if_ok_both c.close_owned.result done.reply (done.ok is_open h laid_out puts all)
          (λ answer says after. (says ∙ answered, after)))
          (λ k left may. leaves_either (done.crash laid_out puts all left may) (λ old. old) (λ made. made.1))
          (λ k. done.frame.left_laid_out k read laid_out)
      | inr closed ↦
          (let only_read : ShelfRead found (g.S.Shelf.view c.close_owned.new.shelf) (fault_in c.close_owned.result) =
          record {
            call = done.frame;
            same = done.idle closed;
            crash = λ left may. elim (done.crash laid_out puts all left may) [
              | inl old ↦ old
              | inr made ↦ absurd (both_ways _ closed made.0)
            ];
            stays_laid_out = λ k. done.frame.left_laid_out k read laid_out;
          } in
          joins_by_reads only_read (λ _. (laid_out, stand))
          (λ h d again.
          if_ok_then c.close_owned.result done.reply (λ answer says. (says ∙ answered, changes ∙ closed))))
    ])
