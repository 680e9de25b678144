-- Failures that were set: for each the number of calls up to the one that fails. 1 is the next call, and 0 stands for
-- a call that was made.
use Rattle.std.specs.Prelude.{ℕ, ◌-◌, List, map, Bool, ◌==◌}
use Rattle.std.specs.List.{list_any}

-- the next call fails
abbrev pub is_due : List ℕ → Bool
is_due ahead = list_any (λ calls. calls == 1) ahead

-- a call was made
abbrev pub after_call : List ℕ → List ℕ
after_call ahead = map (λ calls. calls - 1) ahead
