-- The limit of a tracker.
use Rattle.std.specs.Prelude.{ℕ}

-- how many files are known at most
abbrev pub row_limit : ℕ
row_limit = 65536
