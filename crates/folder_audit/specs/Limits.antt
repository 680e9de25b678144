-- What an audit reads at most.
use Rattle.std.specs.Prelude.{ℕ}

-- the greatest kept length of an output that is read, 256 MiB
abbrev pub largest_kept : ℕ
largest_kept = 268435456

-- the most bytes of a file between where its reading began and its row's offset, 64 MiB
abbrev pub largest_read : ℕ
largest_read = 67108864
