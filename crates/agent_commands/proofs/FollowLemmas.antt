-- The control lines, one after another.
use Rattle.std.proofs.Common.{ℕ, ◌+◌, List}
use Rattle.std.specs.Prelude.{Option, Ok}
use Rattle.agent_commands.specs.Control.{max_control}
use Rattle.agent_commands.specs.Follow.{AsksFor, Follows, Progress, polls}
use Rattle.agent_commands.specs.Headline.{KeepsFrom}
use Rattle.agent_commands.specs.Moment.{Moment, Meanings}
use Rattle.agent_commands.specs.Turn.{Turns}
use Rattle.agent_commands.specs.declared.control.Request.TheVariants.{Poll}
use Rattle.poll_core.specs.SessionParts.{rules_of_session}
use Rattle.poll_core.specs.declared.session.Session.{Session}

module _ {T D K C : Type 0} (meanings : Meanings T D K C) (begun : Moment T D K C) (first : Session) (begin : Option (List ℕ)) (old : Moment T D K C) where
  -- What the command does from this line on, it does from the first on.
  abbrev pub Leads : ℕ → ℕ → Session → Option (List ℕ) → Moment T D K C → Type 0
  Leads number left session rest now = (end : Progress) (status : ℕ) (rest_after : Option (List ℕ)) (new : Moment T D K C)
      → Follows meanings begun end status rest_after new number left session rest now
      → Follows meanings begun end status rest_after new 1 max_control first begin old

  pub leads_none : Leads 1 max_control first begin old
  leads_none end status rest_after new follows = follows

  pub leads_on : (number left left_after : ℕ) (session next : Session) (rest between : Option (List ℕ)) (now mid : Moment T D K C)
      → Leads number left session rest now → AsksFor left (Ok Poll) left_after rest between → Turns meanings session begun next now mid
      → Leads (number + 1) left_after next between mid
  leads_on number left left_after session next rest between now mid leads asks turns end status rest_after new follows =
      leads end status rest_after new (polls number left left_after session next rest between now mid asks turns follows)

-- the same, whenever the command began
abbrev pub LeadsFrom : {T D K C : Type 0} → Meanings T D K C → Session → Option (List ℕ) → Moment T D K C → ℕ → ℕ → Session → Option (List ℕ) → Moment T D K C → Type 0
LeadsFrom {T} {D} {K} {C} meanings first begin old number left session rest now =
    (begun : Moment T D K C) → KeepsFrom meanings (rules_of_session first) begun old → Leads meanings begun first begin old number left session rest now
