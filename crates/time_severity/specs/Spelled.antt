-- Integers as they are written in decimal.
use Rattle.std.specs.Prelude.{ℕ, ◌^◌, List, Bool, ◌&&◌, nat_lt, bytes_eq, if◌then◌else◌, ℤ, pos, negsuc, Option, None, Some}
use Rattle.std.specs.Fmt.{signed_decimal}
use Rattle.std.specs.Str.Parse.{signed_digits_value}

-- a number from -2^63 to 2^63 - 1; `negsuc n` is -(n + 1)
abbrev pub is_int : ℤ → Bool
is_int (pos n) = nat_lt n (2 ^ 63)
is_int (negsuc n) = nat_lt n (2 ^ 63)

abbrev pub spelled_as : ℤ → List ℕ → Option ℤ
spelled_as number bytes = if bytes_eq (signed_decimal number) bytes && is_int number then Some number else None

-- the number of 64 bits that is written so: with no sign but a minus, and with no zero in front
abbrev pub number_spelled : List ℕ → Option ℤ
number_spelled bytes = spelled_as (signed_digits_value 10 bytes) bytes
