-- Faults, and the calls that are set to fail, as they are told.
use Rattle.std.specs.Prelude.{ℕ, ◌-◌, Bool, List, [], map, count_by, not, ◌==◌}
use Rattle.std.specs.List.{list_any}

pub record Failing : Type 0 where
  pub count : ℕ
  -- how much the count may still rise
  pub spare : ℕ
  -- the numbers of the calls from now: 1 is the next, and 0 stands for one that was reached
  pub calls : List ℕ

abbrev pub no_failure : Failing
no_failure = record { count = 0; spare = 0; calls = [] }

abbrev pub still : List ℕ → ℕ
still calls = count_by (λ call. not (call == 0)) calls

abbrev pub is_reached : List ℕ → Bool
is_reached calls = list_any (λ call. call == 1) calls

-- a call later
abbrev pub one_later : List ℕ → List ℕ
one_later calls = map (λ call. call - 1) calls
