-- How much is taken and printed.
use Rattle.std.specs.Prelude.{ℕ}

-- the most bytes that are taken of a source
abbrev pub most_taken : ℕ
most_taken = 1099511627776

-- the most bytes of the lines that are printed
abbrev pub most_printed : ℕ
most_printed = 1099511627776
