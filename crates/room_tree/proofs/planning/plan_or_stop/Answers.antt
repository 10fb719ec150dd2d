use Rattle.room_tree.proofs.Common.{arith}
use Rattle.room_tree.proofs.planning.plan_or_stop.Goals as goal

pub returns-in-Stat-clause-effect : goal.returns-in-Stat-clause-effect
returns-in-Stat-clause-effect g c = rw c.in-Stat.is c.plan_stat.ensures.effect

pub returns-in-List-clause-effect : goal.returns-in-List-clause-effect
returns-in-List-clause-effect g c = rw c.in-List.is c.plan_list.ensures.effect

pub returns-in-Mkdir-clause-effect : goal.returns-in-Mkdir-clause-effect
returns-in-Mkdir-clause-effect g c = rw c.in-Mkdir.is c.plan_mkdir.ensures.effect

pub returns-in-Create-clause-effect : goal.returns-in-Create-clause-effect
returns-in-Create-clause-effect g c = rw c.in-Create.is (rw c.as_slice.ensures.value at c.plan_create.ensures.effect)

pub returns-in-Read-clause-effect : goal.returns-in-Read-clause-effect
returns-in-Read-clause-effect g c = rw c.in-Read.is c.plan_read.ensures.effect

pub returns-in-Write-clause-effect : goal.returns-in-Write-clause-effect
returns-in-Write-clause-effect g c =
    rw c.in-Write.is (rw c.as_slice-in-Write.ensures.value at c.plan_write.ensures.effect)

pub returns-in-Append-clause-effect : goal.returns-in-Append-clause-effect
returns-in-Append-clause-effect g c =
    rw c.in-Append.is (rw c.as_slice-in-Append.ensures.value at c.plan_append.ensures.effect)

pub returns-in-GetList-clause-effect : goal.returns-in-GetList-clause-effect
returns-in-GetList-clause-effect g c = rw c.in-GetList.is c.plan_getlist.ensures.effect

pub returns-in-Chown-clause-effect : goal.returns-in-Chown-clause-effect
returns-in-Chown-clause-effect g c = rw c.in-Chown.is c.plan_chown.ensures.effect

pub returns-in-Access-clause-effect : goal.returns-in-Access-clause-effect
returns-in-Access-clause-effect g c = rw c.in-Access.is c.plan_access.ensures.effect

pub returns-in-Remove-clause-effect : goal.returns-in-Remove-clause-effect
returns-in-Remove-clause-effect g c = rw c.in-Remove.is c.plan_remove.ensures.effect

pub returns-in-SetList-clause-effect : goal.returns-in-SetList-clause-effect
returns-in-SetList-clause-effect g c =
    rw c.in-SetList.is (rw c.as_slice-in-SetList.ensures.value at c.plan_setlist.ensures.effect)

pub returns-in-Rename-clause-effect : goal.returns-in-Rename-clause-effect
returns-in-Rename-clause-effect g c = rw c.in-Rename.is c.plan_rename.ensures.effect

pub returns-in-Stat-clause-asks : goal.returns-in-Stat-clause-asks
returns-in-Stat-clause-asks g c = rw c.in-Stat.is (omega (arith, c.plan_stat.ensures.asks))

pub returns-in-List-clause-asks : goal.returns-in-List-clause-asks
returns-in-List-clause-asks g c = rw c.in-List.is (omega (arith, c.plan_list.ensures.asks))

pub returns-in-Mkdir-clause-asks : goal.returns-in-Mkdir-clause-asks
returns-in-Mkdir-clause-asks g c = rw c.in-Mkdir.is (omega (arith, c.plan_mkdir.ensures.asks))

pub returns-in-Create-clause-asks : goal.returns-in-Create-clause-asks
returns-in-Create-clause-asks g c = rw c.in-Create.is (omega (arith, c.plan_create.ensures.asks))

pub returns-in-Read-clause-asks : goal.returns-in-Read-clause-asks
returns-in-Read-clause-asks g c = rw c.in-Read.is (omega (arith, c.plan_read.ensures.asks))

pub returns-in-Write-clause-asks : goal.returns-in-Write-clause-asks
returns-in-Write-clause-asks g c = rw c.in-Write.is (omega (arith, c.plan_write.ensures.asks))

pub returns-in-Append-clause-asks : goal.returns-in-Append-clause-asks
returns-in-Append-clause-asks g c = rw c.in-Append.is (omega (arith, c.plan_append.ensures.asks))

pub returns-in-GetList-clause-asks : goal.returns-in-GetList-clause-asks
returns-in-GetList-clause-asks g c = rw c.in-GetList.is (omega (arith, c.plan_getlist.ensures.asks))

pub returns-in-Chown-clause-asks : goal.returns-in-Chown-clause-asks
returns-in-Chown-clause-asks g c = rw c.in-Chown.is (omega (arith, c.plan_chown.ensures.asks))

pub returns-in-Access-clause-asks : goal.returns-in-Access-clause-asks
returns-in-Access-clause-asks g c = rw c.in-Access.is (omega (arith, c.plan_access.ensures.asks))

pub returns-in-Remove-clause-asks : goal.returns-in-Remove-clause-asks
returns-in-Remove-clause-asks g c = rw c.in-Remove.is (omega (arith, c.plan_remove.ensures.asks))

pub returns-in-SetList-clause-asks : goal.returns-in-SetList-clause-asks
returns-in-SetList-clause-asks g c = rw c.in-SetList.is c.plan_setlist.ensures.asks

pub returns-in-Rename-clause-asks : goal.returns-in-Rename-clause-asks
returns-in-Rename-clause-asks g c = rw c.in-Rename.is c.plan_rename.ensures.asks
