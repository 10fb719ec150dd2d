use Rattle.room_acl.proofs.Travelling.{hands_down_twice, hands_down_marked, hands_down_entries, hands_down_to_own}
use Rattle.room_acl.proofs.inheritance.handing_down_laws.Goals as goal

pub returns-clause-twice : goal.returns-clause-twice
returns-clause-twice c = hands_down_twice

pub returns-clause-marked : goal.returns-clause-marked
returns-clause-marked c = hands_down_marked

pub returns-clause-entries : goal.returns-clause-entries
returns-clause-entries c = hands_down_entries

pub returns-clause-own : goal.returns-clause-own
returns-clause-own c = hands_down_to_own
