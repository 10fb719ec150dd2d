-- The rows of a fresh room keep the record rules, and stand for the fresh room.
use Rattle.room_records.proofs.Common.{◌≡◌, ℕ, sym, ◌∙◌, List, Option, None, Node, Records, RulesHold, fresh_room}
use Rattle.room_records.proofs.Common.{RepresentsRoom, IsFreeFor, fresh_records}
use Rattle.room_records.proofs.FreshRoom.{fresh_stands, rules}
use Rattle.room_records.proofs.RoomsMap.{none_is_some}

pub fresh_rules : (owner group : List ℕ) → RulesHold (fresh_records owner group)
fresh_rules owner group = record {
  objects = rules owner group;
  slots = record { sessions = λ sid row h. absurd cc; slots = λ sid slot h. absurd cc };
}

pub rules_of : (r : Records) (owner group : List ℕ) → r ≡ fresh_records owner group → RulesHold r
rules_of r owner group is = rw is (fresh_rules owner group)

pub represents_of : (r : Records) (owner group : List ℕ)
    → r ≡ fresh_records owner group → RepresentsRoom r.objects (fresh_room owner group)
represents_of r owner group is = rw is (fresh_stands owner group)

pub free_of_none : (nodes : ℕ → Option Node) (node : Node) → ((id : ℕ) → nodes id ≡ None) → IsFreeFor nodes node
free_of_none nodes node none = λ other is _ _. absurd (none_is_some other (sym (none other.id) ∙ is))
