-- What a script makes of the answers of sessions.
use Rattle.std.specs.Prelude.{Option, Some, None, Result, Ok, Err}
use Rattle.lifetimes.specs.Refusal.{setup_fault}
use Rattle.lifetimes.specs.declared.fault.ScriptFault.{ScriptFault}
use Rattle.lifetimes.specs.declared.fault.ScriptFault.TheVariants.{Memory}
use Rattle.poll_core.specs.declared.fault.OpenFault.{OpenFault}
use Rattle.poll_core.specs.declared.fault.OpenFault.TheVariants as opening
use Rattle.poll_core.specs.declared.poll_fault.PollFault.{PollFault}
use Rattle.poll_core.specs.declared.poll_fault.PollFault.TheVariants as poll
use Rattle.poll_core.specs.declared.session.Session.{Session}
use Rattle.poll_core.specs.declared.summary.Summary.{Summary}

-- A poll leaves the next session, or none where it was refused. Want of memory alone ends the script.
abbrev pub next_of : Result (Session × Summary) PollFault → Result (Option Session) ScriptFault
next_of (Ok done) = Ok (Some done.0)
next_of (Err poll.Disk) = Ok None
next_of (Err (poll.OutputFull size)) = Ok None
next_of (Err (poll.Worn sequence)) = Ok None
next_of (Err poll.Memory) = Err Memory

-- An opening leaves a session, or none where a call on the disk failed. Any other refusal ends the script.
abbrev pub opened_of : Result Session OpenFault → Result (Option Session) ScriptFault
opened_of (Ok session) = Ok (Some session)
opened_of (Err opening.Disk) = Ok None
opened_of (Err fault) = Err (setup_fault fault)
