-- The bytes of JSON that stand for themselves, as RFC 8259 names them.
use Rattle.std.specs.Prelude.{ℕ, Bool, not, ◌==◌, ◌||◌, nat_lt, if◌then◌else◌, Option, None, Some}
use Rattle.std.specs.Char.{digit_value}
use Rattle.std.specs.Int.{is_in_range}

-- space, tab, LF and CR (section 2)
abbrev pub is_blank : ℕ → Bool
is_blank byte = (byte == 32) || (byte == 9) || (byte == 10) || (byte == 13)

abbrev pub is_digit : ℕ → Bool
is_digit byte = is_in_range 48 57 byte

-- the digits but 0
abbrev pub is_digit_from_one : ℕ → Bool
is_digit_from_one byte = is_in_range 49 57 byte

-- `e` and `E`
abbrev pub is_power_mark : ℕ → Bool
is_power_mark byte = (byte == 101) || (byte == 69)

-- `+` and `-`
abbrev pub is_sign : ℕ → Bool
is_sign byte = (byte == 43) || (byte == 45)

-- the value of a hexadecimal digit of any case
unfoldable pub hex_value : ℕ → Option ℕ
hex_value byte = (if nat_lt (digit_value byte) 16 then Some (digit_value byte) else None)

-- what stands for itself between two quotes: all but quotes, backslashes and control characters (section 7)
unfoldable pub is_plain : ℕ → Bool
is_plain byte = not ((byte == 34) || (byte == 92) || nat_lt byte 32)

-- the character that a backslash and this byte stand for (section 7); `u` is no such byte
unfoldable pub escaped : ℕ → Option ℕ
escaped byte =
    (if byte == 34 then Some 34 else
    (if byte == 92 then Some 92 else
    (if byte == 47 then Some 47 else
    (if byte == 98 then Some 8 else
    (if byte == 102 then Some 12 else
    (if byte == 110 then Some 10 else
    (if byte == 114 then Some 13 else
    (if byte == 116 then Some 9 else None))))))))
