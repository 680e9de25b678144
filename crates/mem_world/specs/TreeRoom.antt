-- A stored world, with the room that is kept for steps to come.
use Rattle.std.specs.Prelude.{ℕ, List, [], ◌∷◌, ◌==◌, if◌then◌else◌}
use Rattle.outside.specs.World.{History}

pub record StoredWorld : Type 0 where
  pub history : History
  -- for so many steps
  pub room : ℕ
  -- files, each with the number of bytes for which it has room
  pub rooms : List (ℕ × ℕ)

abbrev pub room_in : List (ℕ × ℕ) → ℕ → ℕ
room_in [] file = 0
room_in (first ∷ others) file = if first.0 == file then first.1 else room_in others file

abbrev pub empty_world : StoredWorld
empty_world = record { history = []; room = 0; rooms = [] }
