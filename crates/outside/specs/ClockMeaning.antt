-- What a clock means: the readings that it tells, and how they come.
use Rattle.std.specs.Prelude.{◌≡◌, ℕ, List, [], ◌∷◌, Option}

pub record ClockMeaning (C : Type 0) : Type 1 where
  -- the readings that are still to come, where the clock tells them
  pub readings : C → Option (List ℕ)

abbrev pub next_reading : List ℕ → ℕ
next_reading [] = 0
next_reading (reading ∷ _) = reading

-- the last one comes again and again
abbrev pub readings_after : List ℕ → List ℕ
readings_after [] = []
readings_after (reading ∷ []) = reading ∷ []
readings_after (_ ∷ next ∷ rest) = next ∷ rest

-- The clock was read once.
pub record Reads (now : ℕ) (old new : List ℕ) : Type 0 where
  pub is_next : now ≡ next_reading old
  pub left : new ≡ readings_after old
