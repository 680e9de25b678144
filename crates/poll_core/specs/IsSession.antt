-- What a session is at any time.
use Rattle.std.specs.Prelude.{◌≡◌, ◌≤◌, length, None, IfSome}
use Rattle.checkpoint_journal.specs.Short.{IsShort}
use Rattle.checkpoint_store.specs.Rules.{IsCheckpoint}
use Rattle.checkpoint_store.specs.Limits.{newest, output_limit, time_limit}
use Rattle.pipeline.specs.MadeOf.{IsMadeOf}
use Rattle.poll_core.specs.SessionParts.{checkpoint_of_session, settings_of_session, rules_of_session, journal_of_session, limit_of, time_of_session}
use Rattle.poll_core.specs.declared.session.Session.{Session}
use Rattle.standing.specs.Rows.{KeepStates}

pub record IsSession (session : Session) : Type 0 where
  pub made : IsMadeOf (settings_of_session session) session.pipeline
  -- before the first poll there is one
  pub one_era : journal_of_session session ≡ None → length session.eras ≡ 1
  pub limit : limit_of session ≤ output_limit
  pub lawful : IsCheckpoint newest (checkpoint_of_session session)
  pub states : KeepStates (rules_of_session session) session.tracker
  pub journal : IfSome (journal_of_session session) IsShort
  -- no line that is kept is later than its next poll
  pub time : (session.observed ≤ time_of_session session) × (time_of_session session ≤ time_limit)
