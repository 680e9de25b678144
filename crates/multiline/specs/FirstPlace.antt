-- The first place that passes a test.
use Rattle.std.specs.Prelude.{ℕ, Bool}
use Rattle.std.specs.List.{position_or_len, range_with_len}

-- the least place below n that passes; where there is none, n
unfoldable pub first_place : (ℕ → Bool) → ℕ → ℕ
first_place test n = position_or_len test (range_with_len 0 n)
