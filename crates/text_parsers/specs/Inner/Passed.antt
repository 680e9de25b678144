-- Bytes that are passed over, since they begin no delimiter and no quoted part.
use Rattle.std.specs.Prelude.{ℕ, Bool, not, ◌==◌, ◌&&◌, nat_lt}
use Rattle.text_parsers.specs.Quotes.{is_quote}

-- behind blanks and quotes in ASCII
abbrev pub is_past : ℕ → Bool
is_past byte = nat_lt 39 byte

-- neither this byte nor a quote
abbrev pub is_other : ℕ → ℕ → Bool
is_other first byte = not (byte == first) && not (is_quote byte)
