-- Where lines are taken as they were written.
use Rattle.std.specs.Prelude.{◌≡◌}
use Rattle.outside.specs.World.{History}
use Rattle.standing.specs.Apart.{Apart}
use Rattle.standing.specs.Rules.{Rules}

-- The settings flush nothing that waits, and files can be told apart by their first bytes.
pub record TakesWhole (rules : Rules) (history : History) : Type 0 where
  pub never : rules.flush_after ≡ 0
  pub apart : Apart rules.front_size history
