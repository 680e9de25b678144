-- The limit of nesting.
use Rattle.std.specs.Prelude.{ℕ}

-- how many lists and maps stand around a value inside an entry at most
abbrev pub levels : ℕ
levels = 4096
