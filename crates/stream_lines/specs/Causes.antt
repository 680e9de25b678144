-- The causes of faults, as counts tell them.
use Rattle.std.specs.Prelude.{◌≡◌, ℕ, Result, Ok, Err}
use Rattle.outside.specs.Count.{Rose}
use Rattle.outside.specs.declared.fault.CallFault.{CallFault}
use Rattle.stream_lines.specs.declared.fault.StreamFault.{StreamFault}
use Rattle.stream_lines.specs.declared.fault.StreamFault.TheVariants.{Source, Report, Long, Full, Memory}

-- what a fault of a write to the report is
abbrev pub report_fault : CallFault → StreamFault
report_fault CallFault.Failed = Report
report_fault CallFault.Memory = Memory

-- The source failed only where its count rose. Any other answer leaves the count as it was.
abbrev pub HasSourceCause : {T : Type 0} → Result T StreamFault → ℕ → ℕ → Type 0
HasSourceCause (Ok _) before after = after ≡ before
HasSourceCause (Err Source) before after = Rose before after
HasSourceCause (Err Report) before after = after ≡ before
HasSourceCause (Err Long) before after = after ≡ before
HasSourceCause (Err (Full _)) before after = after ≡ before
HasSourceCause (Err Memory) before after = after ≡ before

-- the same of the report
abbrev pub HasReportCause : {T : Type 0} → Result T StreamFault → ℕ → ℕ → Type 0
HasReportCause (Ok _) before after = after ≡ before
HasReportCause (Err Source) before after = after ≡ before
HasReportCause (Err Report) before after = Rose before after
HasReportCause (Err Long) before after = after ≡ before
HasReportCause (Err (Full _)) before after = after ≡ before
HasReportCause (Err Memory) before after = after ≡ before
