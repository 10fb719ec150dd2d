-- The faults, their lines and their status.
use Rattle.std.specs.Prelude.{ℕ, List, codes, Result, Ok, Err}
use Rattle.room_wire.specs.declared.serving.stop.Why.{Why}
use Rattle.room_wire.specs.declared.serving.stop.Why.TheVariants as end
use Rattle.room_report.specs.declared.reports.ReportFault.{ReportFault}
use Rattle.room_report.specs.declared.reports.ReportFault.TheVariants as report
use Rattle.room_roster.specs.declared.fault.RosterFault.{RosterFault}
use Rattle.room_roster.specs.declared.fault.RosterFault.TheVariants as roster
use Rattle.room_program.specs.declared.fault.Fault.{Fault}
use Rattle.room_program.specs.declared.fault.Fault.TheVariants.{BadName, CannotReadRoster, BadRoster, RoomExists}
use Rattle.room_program.specs.declared.fault.Fault.TheVariants.{NotARoom, StoreFailed, Memory, NetworkFailed}
use Rattle.room_program.specs.declared.fault.Fault.TheVariants.{BadMessage, ReadFailed, WriteFailed, SelftestFailed}

abbrev pub fault_line : Fault → List ℕ
fault_line BadName = codes "fileroom: bad name\n"
fault_line CannotReadRoster = codes "fileroom: cannot read roster\n"
fault_line BadRoster = codes "fileroom: bad roster\n"
fault_line RoomExists = codes "fileroom: room exists\n"
fault_line NotARoom = codes "fileroom: not a room\n"
fault_line StoreFailed = codes "fileroom: store failed\n"
fault_line Memory = codes "fileroom: no memory\n"
fault_line NetworkFailed = codes "fileroom: network failed\n"
fault_line BadMessage = codes "fileroom: bad message\n"
fault_line ReadFailed = codes "fileroom: read failed\n"
fault_line WriteFailed = codes "fileroom: write failed\n"
fault_line SelftestFailed = codes "fileroom: selftest failed\n"

-- how a run ends where serving ended so; only `Closed` is no fault
abbrev pub done_of : Why → Result (Unit {0}) Fault
done_of end.Closed = Ok tt
done_of end.BadMessage = Err BadMessage
done_of end.ReadFailed = Err ReadFailed
done_of end.WriteFailed = Err WriteFailed
done_of end.Memory = Err Memory

abbrev pub done_of_report : Result (Unit {0}) ReportFault → Result (Unit {0}) Fault
done_of_report (Ok done) = Ok tt
done_of_report (Err report.Memory) = Err Memory
done_of_report (Err report.Store) = Err StoreFailed
done_of_report (Err report.WriteFailed) = Err WriteFailed

-- the fault of a text that gives no roster
abbrev pub roster_fault : RosterFault → Fault
roster_fault roster.Memory = Memory
roster_fault roster.Bad = BadRoster
