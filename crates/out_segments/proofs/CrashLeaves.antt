-- What a write leaves of one file.
use Rattle.std.proofs.Common.{ℕ, ◌≤◌, List, length, arith}
use Rattle.std.proofs.lemmas.Grind.{common_steps}
use Rattle.outside.specs.Image.{Torn, Holds}
use Rattle.out_segments.specs.MemLog.{written_over}

pub torn_over : (offset : ℕ) (bytes old : List ℕ) → Torn offset (length bytes) old (written_over offset bytes old)
torn_over offset bytes old = record {
  before = λ k early within. grind (arith, common_steps);
  after = λ k late within. grind (arith, common_steps);
  no_shorter = grind (arith, common_steps);
  no_longer = grind (arith, common_steps);
}

pub torn_wider : (offset less more : ℕ) (old new : List ℕ) → less ≤ more → Torn offset less old new → Torn offset more old new
torn_wider offset less more old new fits torn = record {
  before = torn.before;
  after = λ k late within. torn.after k (omega arith) within;
  no_shorter = torn.no_shorter;
  no_longer = omega (arith, torn.no_longer);
}

pub holds_over : (offset : ℕ) (bytes old : List ℕ) → offset ≤ length old → Holds offset bytes old (written_over offset bytes old)
holds_over offset bytes old within = record {
  outside = torn_over offset bytes old;
  inside = λ k small. grind (arith, common_steps);
  reaches = grind (arith, common_steps);
}
