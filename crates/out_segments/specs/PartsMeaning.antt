-- What Parts mean: their images, and their counts.
use Rattle.std.specs.Prelude.{ℕ, Option}
use Rattle.outside.specs.Images.{Images}
use Rattle.out_segments.specs.declared.parts.PartFile.{PartFile}

pub record PartsMeaning (P : Type 0) : Type 1 where
  pub images : Images PartFile P
  -- how often the Parts have failed
  pub faults : P → ℕ
  -- what `faults` never passes, where there is such a number
  pub bound : P → Option ℕ
  -- the number of writes, cuts and syncs that succeeded, where the Parts tell it
  pub done : P → Option ℕ
  -- what `done` never passes, where there is such a number
  pub limit : P → Option ℕ
  -- The number of bytes that writes to the two slots were given, where the Parts tell it. It stands still at 2^64 - 1.
  pub written : P → Option ℕ
