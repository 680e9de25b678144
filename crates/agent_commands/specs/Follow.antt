-- The command `follow`: control lines, one after another.
use Rattle.std.specs.Prelude.{◌≡◌, ℕ, ◌+◌, List, Option, Result, Ok, Err}
use Rattle.outside.specs.Crash.{Passes}
use Rattle.outside.specs.World.{Told}
use Rattle.outside.specs.declared.fault.Failed.{Failed}
use Rattle.poll_core.specs.declared.session.Session.{Session}
use Rattle.agent_commands.specs.Control.{max_control, Asks, Spends}
use Rattle.agent_commands.specs.Grows.{GrowsBy}
use Rattle.agent_commands.specs.Moment.{Moment, Meanings, moment}
use Rattle.agent_commands.specs.Once.{IsNotOpened}
use Rattle.agent_commands.specs.Opens.{Opens}
use Rattle.agent_commands.specs.Report.{GrowsByPart}
use Rattle.agent_commands.specs.Status.{fault_line}
use Rattle.agent_commands.specs.Turn.{Turns, Stops}
use Rattle.agent_commands.specs.declared.control.Request.{Request}
use Rattle.agent_commands.specs.declared.control.Request.TheVariants.{Poll, Quit, End, Faulty, Exhausted}
use Rattle.agent_commands.specs.declared.fault.Fault.TheVariants.{Control, ControlLine, ControlLong}

-- How the request of the line with this number, from 1, ends the command, where it asks for no poll.
abbrev pub StopsAt : Result Request Failed → ℕ → ℕ → Option (List ℕ) → Option (List ℕ) → Type 0
StopsAt (Ok Poll) number status old new = ⊥
StopsAt (Ok Quit) number status old new = (status ≡ 0) × (new ≡ old)
StopsAt (Ok End) number status old new = (status ≡ 0) × (new ≡ old)
StopsAt (Ok Faulty) number status old new = (status ≡ 12) × Told (GrowsByPart (fault_line (ControlLine number))) old new
StopsAt (Ok Exhausted) number status old new = (status ≡ 15) × Told (GrowsByPart (fault_line ControlLong)) old new
StopsAt (Err _) number status old new = (status ≡ 8) × Told (GrowsByPart (fault_line Control)) old new

-- The next line asked for this, and so many bytes may be taken behind it.
pub record AsksFor (left : ℕ) (request : Result Request Failed) (left_after : ℕ) (rest rest_after : Option (List ℕ)) : Type 0 where
  pub asks : Told (Asks left request) rest rest_after
  pub spends : Told (Spends left left_after) rest rest_after

-- how far control lines were served: the number of the last one, from 1, and how many polls were made
pub record Progress : Type 0 where
  pub last : ℕ
  pub made : ℕ

-- What the command does with its session from one moment on, until it ends with this status, having come so far. The line with the
-- number `number` comes next, and of the control input so many bytes may still be taken. The command began at the first moment.
pub data Follows {T D K C : Type 0} (meanings : Meanings T D K C) (begun : Moment T D K C) (end : Progress) (status : ℕ) (rest_after : Option (List ℕ)) (new : Moment T D K C)
    : ℕ → ℕ → Session → Option (List ℕ) → Moment T D K C → Type 0 where
  -- The line asks for a poll, which is made and told, and the command goes on.
  polls : (number left left_after : ℕ) (session next : Session) (rest between : Option (List ℕ)) (old mid : Moment T D K C)
      → AsksFor left (Ok Poll) left_after rest between → Turns meanings session begun next old mid
      → Follows meanings begun end status rest_after new (number + 1) left_after next between mid
      → Follows meanings begun end status rest_after new number left session rest old
  -- The line asks for a poll, which ends the command.
  stops : (number left left_after : ℕ) (session : Session) (rest : Option (List ℕ)) (old : Moment T D K C)
      → AsksFor left (Ok Poll) left_after rest rest_after → Stops meanings session status old new → end.last ≡ number → end.made ≡ number
      → Follows meanings begun end status rest_after new number left session rest old
  -- The line asks for something else, or can't be taken, and that ends the command.
  ends : (number left left_after : ℕ) (session : Session) (rest : Option (List ℕ)) (old : Moment T D K C) (request : Result Request Failed)
      → AsksFor left request left_after rest rest_after
      → StopsAt request number status (meanings.reports.written old.report) (meanings.reports.written new.report)
      → new.tree ≡ old.tree → new.disk ≡ old.disk → new.clock ≡ old.clock → end.last ≡ number → end.made + 1 ≡ number
      → Follows meanings begun end status rest_after new number left session rest old

-- So the command served the control lines. Each poll that it made adds 1 to the sequence number at most.
pub record IsServed {T D K C : Type 0} (meanings : Meanings T D K C) (begun : Moment T D K C) (session : Session) (rest rest_after : Option (List ℕ)) (old new : Moment T D K C) (status : ℕ) : Type 0 where
  pub end : Progress
  pub follows : Follows meanings begun end status rest_after new 1 max_control session rest old
  pub crash : Passes meanings.disks.images (GrowsBy end.made) old.disk new.disk

module _ {T D K C : Type 0} (meanings : Meanings T D K C) (rest rest_after : Option (List ℕ)) (old new : Moment T D K C) (status : ℕ) where
  -- A session was opened, and served the control lines.
  pub record ServesLines : Type 0 where
    pub session : Session
    pub between : D
    pub opens : Opens meanings.disks.images session old.disk between
    pub served : IsServed meanings old session rest rest_after (moment old.tree between old.report old.clock) new status
    pub crash : Passes meanings.disks.images (GrowsBy served.end.made) old.disk new.disk

  pub data FollowEnds : Type 0 where
    serves : ServesLines → FollowEnds
    not_opened : IsNotOpened meanings old new status → rest_after ≡ rest → FollowEnds
