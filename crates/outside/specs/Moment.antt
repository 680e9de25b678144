-- The world moves while the agent makes a call.
use Rattle.std.specs.Prelude.{◌≡◌, List, [], ◌∷◌, ◌++◌, ⊤, IsTrue}
use Rattle.outside.specs.World.{Event, History}
use Rattle.outside.specs.Lawful.{is_lawful}

-- each of these steps, the newest first, is lawful where it comes
abbrev pub AreLawful : List Event → History → Type 0
AreLawful [] before = ⊤
AreLawful (step ∷ steps) before = IsTrue (is_lawful (steps ++ before) step) × AreLawful steps before

-- the history goes on by steps of others alone
pub record Moves (old new : History) : Type 0 where
  pub steps : List Event
  pub goes_on : new ≡ steps ++ old
  pub lawful : AreLawful steps old

-- The fact holds at one moment of the call, at which the agent's own events come. Others move before and after it.
pub record AtOneMoment (own : List Event) (fact : History → Type 0) (old new : History) : Type 0 where
  pub moment : History
  pub before : Moves old moment
  pub holds : fact moment
  pub after : Moves (own ++ moment) new
