-- What `close` leaves.
use Rattle.std.specs.Prelude.{◌≡◌, ℕ, filter, not, ◌==◌}
use Rattle.outside.specs.World.{World}
use Rattle.outside.specs.Moment.{Moves}

pub record Closes (handle : ℕ) (old new : World) : Type 0 where
  pub handles : new.handles ≡ filter (λ pair. not (pair.0 == handle)) old.handles
  pub history : Moves old.history new.history
