-- The bytes between the quotes of a JSON string (RFC 8259, section 7).
use Rattle.std.specs.Prelude.{ℕ, ◌/◌, ◌%◌, List, [], ◌∷◌, ◌++◌, ◌==◌, ◌||◌, Bool, nat_lt, flat_map, codes, if◌then◌else◌}
use Rattle.std.specs.Char.{digit_char}

-- a quote, a backslash or a control character
abbrev pub needs_escape : ℕ → Bool
needs_escape byte = (byte == 34) || (byte == 92) || nat_lt byte 32

-- what stands in a string for one byte of its text: a short escape where JSON has one, and else `\u00` and two
-- lower-case hexadecimal digits
unfoldable pub escaped_byte : ℕ → List ℕ
escaped_byte byte =
    (if byte == 34 then codes "\\\"" else
    (if byte == 92 then codes "\\\\" else
    (if byte == 8 then codes "\\b" else
    (if byte == 12 then codes "\\f" else
    (if byte == 10 then codes "\\n" else
    (if byte == 13 then codes "\\r" else
    (if byte == 9 then codes "\\t" else
    (if nat_lt byte 32 then codes "\\u00" ++ digit_char (byte / 16) ∷ digit_char (byte % 16) ∷ [] else
    byte ∷ []))))))))

abbrev pub escaped : List ℕ → List ℕ
escaped = flat_map escaped_byte
