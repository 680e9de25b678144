-- Why a part of the reader stops, told of the whole that it is part of.
use Rattle.std.proofs.Common.{ℕ, Result, Ok, Err, OnOk}
use Rattle.syslog_parser.specs.declared.fault.Stop.{Stop}
use Rattle.syslog_parser.specs.declared.fault.Stop.TheVariants.{At, Memory}
use Rattle.syslog_parser.specs.Inner.Reads.{StopsWith}

pub stops_so : (P Q : ℕ → Type 0) → ((left : ℕ) → P left → Q left) → (stop : Stop) → StopsWith P stop → StopsWith Q stop
stops_so P Q f (At left) p = f left p
stops_so P Q f Memory p = tt

pub on_ok : {A E : Type 0} (P Q : Type 0) → (P → Q) → (result : Result A E) → OnOk result P → OnOk result Q
on_ok P Q f (Ok x) p = f p
on_ok P Q f (Err e) p = tt
