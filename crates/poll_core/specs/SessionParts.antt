-- What a session remembers.
use Rattle.std.specs.Prelude.{ℕ, ◌+◌, max, List, [], ◌∷◌, Bool, if◌then◌else◌, Option, Some, None, length}
use Rattle.std.specs.Option.{is_none}
use Rattle.checkpoint_journal.specs.declared.journal.Journal.{Journal}
use Rattle.pipeline.specs.AsRules.{rules_of}
use Rattle.poll_core.specs.declared.session.Session.{Session}
use Rattle.standing.specs.Poll.{Poll}
use Rattle.standing.specs.Rows.{Checkpoint}
use Rattle.standing.specs.Rules.{Rules}

-- the last of some texts
abbrev pub last_text : List (List ℕ) → List ℕ
last_text [] = []
last_text (text ∷ []) = text
last_text (text ∷ other ∷ more) = last_text (other ∷ more)

-- the text of the settings that are in force
abbrev pub settings_of_session : Session → List ℕ
settings_of_session session = last_text session.eras

-- the checkpoint that it is to find on its disk; ids count from 1
abbrev pub checkpoint_of_session : Session → Checkpoint
checkpoint_of_session session = record { eras = session.eras; output_length = session.kept; observed = session.observed; next_id = length session.tracker + 1; rows = session.tracker }

abbrev pub rules_of_session : Session → Rules
rules_of_session session = rules_of (settings_of_session session) session.pipeline

-- none before the first poll where no checkpoint stood
abbrev pub journal_of_session : Session → Option Journal
journal_of_session session = session.journal

-- no checkpoint stood
abbrev pub is_first : Session → Bool
is_first session = is_none (journal_of_session session)

-- the time of its next poll, in nanoseconds since 1970
abbrev pub time_of_session : Session → ℕ
time_of_session session = session.time

-- the session at this time, or at its own where that is later
abbrev pub session_at : Session → ℕ → Session
session_at session now = record session { time = max session.time now }

-- the time of lines that are made then, where the settings ask for one
abbrev pub stamp_at : Bool → ℕ → Option ℕ
stamp_at stamps time = if stamps then Some time else None

abbrev pub stamp_of_session : Session → Option ℕ
stamp_of_session session = stamp_at (rules_of_session session).stamps (time_of_session session)

-- what it polls by
abbrev pub poll_of_session : Session → Poll
poll_of_session session = record { rules = rules_of_session session; era = length session.eras; first = is_first session; stamp = stamp_of_session session }

-- how many bytes of the output are kept
abbrev pub kept_of : Session → ℕ
kept_of session = session.kept

-- how long the output may get
abbrev pub limit_of : Session → ℕ
limit_of session = session.limit
