-- Outcomes that plan the effect of a command.
use Rattle.room_tree.proofs.Common.{common_steps, arith, ◌≡◌, ℕ, ap, sym, ◌∙◌, subst, List, [], Option, None, Some}
use Rattle.room_tree.proofs.Common.{IsSome, IsNone, AllByRecursion, SubjectModel, Change, Path, ObjectRecords}
use Rattle.room_tree.proofs.Common.{apply_all_to_objects, IsOfObjects, ObjectRulesHoldAfterEach, Room, object_at}
use Rattle.room_tree.proofs.Common.{RepresentsRoom, HasPath, CommandModel, Outcome, first_refusal, checks, NotDone}
use Rattle.room_tree.proofs.Common.{reply_model, IsNotDone, Refusal, effect_by, changed, reply, PlansEffect, most_rows}
use Rattle.room_tree.proofs.Common.{place_after, ChangesFewRows, rights_of_success}
use Rattle.room_tree.proofs.FewRows.{few_none}

pub none_and_some : {X : Type 0} (o : Option X) → IsNone o → IsSome o → ⊥
none_and_some None a b = let f = b in cc
none_and_some (Some x) a b = let f = a in cc

module _ {t : ObjectRecords} {room : Room} (caller : SubjectModel) (command : CommandModel) (outcome : Outcome)
    (stand : RepresentsRoom t room) where
  -- a refusal plans nothing
  pub refusal_plans : (refusal : Refusal) → first_refusal (checks room caller command) ≡ Some refusal
      → reply_model outcome.reply ≡ NotDone refusal → outcome.changes.items ≡ []
      → PlansEffect t room caller command outcome
  refusal_plans refusal is replied none = grind (arith, common_steps)

  -- what succeeds is not refused
  not_refused : (asked : CommandModel) → IsNotDone (reply room caller asked) → ⊥
  not_refused asked refused = grind (arith, common_steps)

  -- and what no check refuses plans what the command leaves
  pub success_plans : (changes : List Change) → first_refusal (checks room caller command) ≡ None
      → reply_model outcome.reply ≡ reply room caller command → outcome.changes.items ≡ changes
      → AllByRecursion IsOfObjects changes → ObjectRulesHoldAfterEach changes t
      → ChangesFewRows (most_rows command) t changes
      → RepresentsRoom (apply_all_to_objects changes t) (changed room caller command)
      → ((path : Path) (id : ℕ) → HasPath t path id → IsSome (t.node id)
      → IsSome (object_at (changed room caller command) (place_after command None path))
      → HasPath (apply_all_to_objects changes t) (place_after command None path) id)
      → ((id : ℕ) → IsNone (t.node id) → IsSome ((apply_all_to_objects changes t).node id) → id ≡ t.next)
      → PlansEffect t room caller command outcome
  success_plans changes is replied planned of_objects rules few leads kept new =
      record {
        reply = replied ∙ sym (ap (λ found. (effect_by room caller command found).reply) is);
        of_tree = rw planned of_objects;
        rules = rw planned rules;
        leads = rw planned (rw is leads);
        numbers = rw planned (record { kept = rw is kept; new = new });
        few = rw planned few;
        refusal = λ refused. absurd (not_refused command (subst IsNotDone replied refused));
        allowed = λ allowed. rights_of_success room caller command is;
      }

  -- a command that only reads
  pub reading_plans : ((path : Path) → place_after command None path ≡ path)
      → changed room caller command ≡ room → first_refusal (checks room caller command) ≡ None
      → reply_model outcome.reply ≡ reply room caller command
      → outcome.changes.items ≡ [] → PlansEffect t room caller command outcome
  reading_plans stays same is replied none =
      success_plans [] is replied none tt tt (few_none (most_rows command) t) (rw same stand)
      (λ path id at stands there. rw (stays path) (at))
      (λ id absent present. absurd (none_and_some (t.node id) absent present))
