-- Bytes that part no CSV records and begin no quotes.
use Rattle.std.specs.Prelude.{ℕ, Bool, not, ◌==◌, ◌||◌}

abbrev pub is_plain : ℕ → Bool
is_plain byte = not ((byte == 34) || ((byte == 13) || (byte == 10)))
