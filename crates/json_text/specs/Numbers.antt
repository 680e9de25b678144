-- The grammar of numbers (RFC 8259, section 6), and what they stand for. In `IsNumber text spelled rest` and the
-- relations below it, the text is what is spelled, and the rest behind it.
use Rattle.std.specs.Prelude.{◌≡◌, ℕ, ℤ, pos, negsuc, ◌^◌, Bool, true, ◌&&◌, nat_lt, if◌then◌else◌, List, [], ◌∷◌, length}
use Rattle.std.specs.Str.{all_ascii_digits}
use Rattle.std.specs.Str.Parse.{without_leading_sign, signed_digits_value}
use Rattle.entry_model.specs.Datum.{Datum, int, text}
use Rattle.json_text.specs.Bytes.{is_digit, is_digit_from_one, is_power_mark, is_sign}

-- any number of digits behind `e` and its sign
pub data IsPowerDigits : List ℕ → List ℕ → List ℕ → Type 0 where
  power_digit : {byte : ℕ} {front spelled rest : List ℕ} → is_digit byte ≡ true → IsPowerDigits front spelled rest
      → IsPowerDigits (byte ∷ front) (byte ∷ spelled) rest
  power_ends : {rest : List ℕ} → IsPowerDigits rest [] rest

-- one digit or more
pub data IsPowerValue : List ℕ → List ℕ → List ℕ → Type 0 where
  power_value : {byte : ℕ} {front spelled rest : List ℕ} → is_digit byte ≡ true → IsPowerDigits front spelled rest
      → IsPowerValue (byte ∷ front) (byte ∷ spelled) rest

-- behind `e`: a sign or none, and digits
pub data IsPower : List ℕ → List ℕ → List ℕ → Type 0 where
  power_sign : {byte : ℕ} {front spelled rest : List ℕ} → is_sign byte ≡ true → IsPowerValue front spelled rest
      → IsPower (byte ∷ front) (byte ∷ spelled) rest
  no_power_sign : {front spelled rest : List ℕ} → IsPowerValue front spelled rest → IsPower front spelled rest

-- an exponent, or none
pub data IsExponent : List ℕ → List ℕ → List ℕ → Type 0 where
  exponent : {byte : ℕ} {front spelled rest : List ℕ} → is_power_mark byte ≡ true → IsPower front spelled rest
      → IsExponent (byte ∷ front) (byte ∷ spelled) rest
  no_exponent : {rest : List ℕ} → IsExponent rest [] rest

-- any number of digits of a fraction, and what may follow
pub data IsFractionDigits : List ℕ → List ℕ → List ℕ → Type 0 where
  fraction_digit : {byte : ℕ} {front spelled rest : List ℕ} → is_digit byte ≡ true → IsFractionDigits front spelled rest
      → IsFractionDigits (byte ∷ front) (byte ∷ spelled) rest
  fraction_ends : {front spelled rest : List ℕ} → IsExponent front spelled rest → IsFractionDigits front spelled rest

-- one digit of a fraction or more
pub data IsFractionValue : List ℕ → List ℕ → List ℕ → Type 0 where
  fraction_value : {byte : ℕ} {front spelled rest : List ℕ} → is_digit byte ≡ true → IsFractionDigits front spelled rest
      → IsFractionValue (byte ∷ front) (byte ∷ spelled) rest

-- a fraction, or none, and what may follow
pub data IsFraction : List ℕ → List ℕ → List ℕ → Type 0 where
  point : {front spelled rest : List ℕ} → IsFractionValue front spelled rest → IsFraction (46 ∷ front) (46 ∷ spelled) rest
  no_fraction : {front spelled rest : List ℕ} → IsExponent front spelled rest → IsFraction front spelled rest

-- any number of digits before the point, and what may follow
pub data IsWholeDigits : List ℕ → List ℕ → List ℕ → Type 0 where
  whole_digit : {byte : ℕ} {front spelled rest : List ℕ} → is_digit byte ≡ true → IsWholeDigits front spelled rest
      → IsWholeDigits (byte ∷ front) (byte ∷ spelled) rest
  whole_ends : {front spelled rest : List ℕ} → IsFraction front spelled rest → IsWholeDigits front spelled rest

-- a number without its sign: 0, or digits that begin with another
pub data IsUnsigned : List ℕ → List ℕ → List ℕ → Type 0 where
  from_zero : {front spelled rest : List ℕ} → IsFraction front spelled rest → IsUnsigned (48 ∷ front) (48 ∷ spelled) rest
  from_one : {byte : ℕ} {front spelled rest : List ℕ} → is_digit_from_one byte ≡ true → IsWholeDigits front spelled rest
      → IsUnsigned (byte ∷ front) (byte ∷ spelled) rest

pub data IsNumber : List ℕ → List ℕ → List ℕ → Type 0 where
  minus : {front spelled rest : List ℕ} → IsUnsigned front spelled rest → IsNumber (45 ∷ front) (45 ∷ spelled) rest
  unsigned : {front spelled rest : List ℕ} → IsUnsigned front spelled rest → IsNumber front spelled rest

-- digits alone, or behind a sign: no fraction and no exponent
abbrev pub is_whole : List ℕ → Bool
is_whole spelled = nat_lt 0 (length (without_leading_sign spelled)) && all_ascii_digits (without_leading_sign spelled)

-- from -2^63 to 2^63 - 1
abbrev pub fits_64_bits : ℤ → Bool
fits_64_bits (pos n) = nat_lt n (2 ^ 63)
fits_64_bits (negsuc n) = nat_lt n (2 ^ 63)

-- an integer where 64 bits hold it, and any other number as it is spelled
unfoldable pub number_of : List ℕ → Datum
number_of spelled =
    (if is_whole spelled && fits_64_bits (signed_digits_value 10 spelled)
    then int (signed_digits_value 10 spelled)
    else text spelled)
