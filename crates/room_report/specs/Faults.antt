-- Faults of a report.
use Rattle.std.specs.Prelude.{Option, None, Some, Result, Ok, Err}
use Rattle.room_records.specs.declared.shelf.ShelfFault.{ShelfFault}
use Rattle.room_records.specs.declared.shelf.ShelfFault.TheVariants as S
use Rattle.room_report.specs.declared.reports.ReportFault.{ReportFault}
use Rattle.room_report.specs.declared.reports.ReportFault.TheVariants as R

-- what a shelf's fault is to a report
abbrev pub fault_of : ShelfFault → ReportFault
fault_of S.Memory = R.Memory
fault_of S.Store = R.Store

-- the shelf's fault that a report answered: a failed write is none
abbrev pub shelf_fault_in : {T : Type 0} → Result T ReportFault → Option ShelfFault
shelf_fault_in (Ok value) = None
shelf_fault_in (Err R.Memory) = Some S.Memory
shelf_fault_in (Err R.Store) = Some S.Store
shelf_fault_in (Err R.WriteFailed) = None
