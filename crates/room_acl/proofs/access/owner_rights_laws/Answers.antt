use Rattle.room_acl.proofs.OwnerRights.{owner_reads, owner_writes, by_entries_alone, others_by_entries, others_have}
use Rattle.room_acl.proofs.access.owner_rights_laws.Goals as goal

pub returns-clause-reads : goal.returns-clause-reads
returns-clause-reads c = owner_reads

pub returns-clause-writes : goal.returns-clause-writes
returns-clause-writes c = owner_writes

pub returns-clause-another : goal.returns-clause-another
returns-clause-another c = by_entries_alone

pub returns-clause-others : goal.returns-clause-others
returns-clause-others c = others_by_entries

pub returns-clause-all : goal.returns-clause-all
returns-clause-all c = others_have
