-- What an input and an output mean: the bytes that they tell, and their counts of faults.
use Rattle.std.specs.Prelude.{ℕ, List, Option}

pub record SourceMeaning (S : Type 0) : Type 1 where
  -- the bytes that are still to come, where the source tells them
  pub rest : S → Option (List ℕ)
  pub faults : S → ℕ

pub record SinkMeaning (K : Type 0) : Type 1 where
  -- the bytes that were written, where the sink tells them
  pub written : K → Option (List ℕ)
  pub faults : K → ℕ
