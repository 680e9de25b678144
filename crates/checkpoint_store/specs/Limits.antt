-- The limits of a checkpoint's numbers.
use Rattle.std.specs.Prelude.{ℕ}

-- the newest version
abbrev pub newest : ℕ
newest = 3

-- the most settings texts
abbrev pub era_limit : ℕ
era_limit = 64

-- the greatest length of the output, 2^40
abbrev pub output_limit : ℕ
output_limit = 1099511627776

-- the last time that can be told, 2^64 - 1
abbrev pub time_limit : ℕ
time_limit = 18446744073709551615

-- the greatest offset of a row, 2^62
abbrev pub offset_limit : ℕ
offset_limit = 4611686018427387904

-- the most bytes of a front
abbrev pub front_limit : ℕ
front_limit = 4096
