-- Numbers, names and zones that stand in a text at a place: what they are and the place behind them, or the first place
-- at which there is none.
use Rattle.std.specs.Prelude.{◌≡◌, ℕ, ◌+◌, ◌-◌, ◌*◌, ◌^◌, max, List, [], ◌∷◌, length, take, drop, fold, slice_index, codes, Bool, true, ◌==◌, ◌&&◌, nat_lt, nat_le, if◌then◌else◌, ℤ, pos, neg_ℤ, Option, Some, None, Result, Ok, Err}
use Rattle.std.specs.Char.{is_ascii_digit, eq_ignore_ascii_case}
use Rattle.std.specs.List.{prefix_len, common_prefix_len}
use Rattle.std.specs.Str.{str_eq_ignore_ascii_case}
use Rattle.case_table.specs.Rows.{Named, first_code}
use Rattle.time_layout.specs.declared.fault.TimeFault.{TimeFault}
use Rattle.time_layout.specs.declared.fault.TimeFault.TheVariants.{Mismatch}
use Rattle.time_layout.specs.declared.parts.Colon.{Colon}
use Rattle.time_layout.specs.declared.parts.Colon.TheVariants.{Optional, Required, Missing}

-- a value and the place behind what spells it
abbrev pub Reading : Type 0 → Type 0
Reading A = Result (A × ℕ) TimeFault

abbrev pub and_then : {A B : Type 0} → Reading A → (A → ℕ → Reading B) → Reading B
and_then (Ok read) rest = rest read.0 read.1
and_then (Err fault) rest = Err fault

-- the number that decimal digits spell
abbrev pub value_of : List ℕ → ℕ
value_of digits = fold (λ n digit. n * 10 + (digit - 48)) 0 digits

-- how many digits stand there, of at most so many
abbrev pub digits_at : List ℕ → ℕ → ℕ → ℕ
digits_at text at most = prefix_len is_ascii_digit (take most (drop at text))

abbrev pub stands : ℕ → List ℕ → ℕ → Bool
stands byte text at = nat_lt at (length text) && (slice_index text at == byte)

-- whether digits of this value, with so many more behind them, can spell a number from low to high
abbrev pub may_lie : ℕ → ℕ → ℕ → ℕ → Bool
may_lie more low high value = nat_lt low ((value + 1) * 10 ^ more) && nat_le (value * 10 ^ more) high

-- so many digits, whose number lies from low to high: where those that stand there begin none, the fault is at the first,
-- else where one is missing
unfoldable pub number : ℕ → ℕ → ℕ → List ℕ → ℕ → Reading ℕ
number digits low high text at =
    let count = digits_at text at digits in
    let value = value_of (take count (drop at text)) in
    if may_lie (digits - count) low high value then
    (if nat_lt count digits then Err (Mismatch (at + count)) else Ok (value, at + digits))
    else Err (Mismatch at)

-- two digits stand there, and spell this number
pub record IsPair (text : List ℕ) (at value : ℕ) : Type 0 where
  pub tens : is_ascii_digit (slice_index text at) ≡ true
  pub ones : is_ascii_digit (slice_index text (at + 1)) ≡ true
  pub value_is : value ≡ (slice_index text at - 48) * 10 + (slice_index text (at + 1) - 48)

-- one or more digits of a second's fraction, as many as stand there up to the most, in nanoseconds
unfoldable pub fraction : ℕ → List ℕ → ℕ → Reading ℕ
fraction most text at =
    let count = digits_at text at most in
    if count == 0 then Err (Mismatch at)
    else Ok (value_of (take count (drop at text)) * 10 ^ (9 - count), at + count)

-- nothing, or a point and a fraction
abbrev pub optional_fraction : ℕ → List ℕ → ℕ → Reading ℕ
optional_fraction most text at = if stands 46 text at then fraction most text (at + 1) else Ok (0, at)

-- a point and so many digits of a second's fraction, in nanoseconds
abbrev pub fixed_fraction : ℕ → List ℕ → ℕ → Reading ℕ
fixed_fraction digits text at =
    if stands 46 text at then and_then (number digits 0 999_999_999 text (at + 1)) (λ value next. Ok (value * 10 ^ (9 - digits), next))
    else Err (Mismatch at)

abbrev pub point_behind : ℕ → List ℕ → ℕ → Reading ℕ
point_behind nanos text at = if stands 46 text at then Ok (nanos, at + 1) else Err (Mismatch at)

-- a point, before which another point with a fraction may stand
abbrev pub fraction_point : List ℕ → ℕ → Reading ℕ
fraction_point text at =
    if stands 46 text at then
    (if digits_at text (at + 1) 1 == 0 then Ok (0, at + 1)
    else and_then (fraction 9 text (at + 1)) (λ nanos next. point_behind nanos text next))
    else Err (Mismatch at)

-- two digits, or one, as many as stand there
abbrev pub unpadded : ℕ → List ℕ → ℕ → Reading ℕ
unpadded high text at = number (if digits_at text at 2 == 2 then 2 else 1) 1 high text at

-- a space and a digit, or two digits, or one
abbrev pub padded_day : List ℕ → ℕ → Reading ℕ
padded_day text at = if stands 32 text at then number 1 1 31 text (at + 1) else unpadded 31 text at

abbrev pub common_fold : List ℕ → List ℕ → ℕ
common_fold name text = common_prefix_len eq_ignore_ascii_case name text

-- with how many bytes of a name the text begins at most
abbrev pub reach : List Named → List ℕ → ℕ
reach [] text = 0
reach (row ∷ rows) text = max (common_fold row.0 text) (reach rows text)

abbrev pub named_or : Option ℕ → ℕ → ℕ → Reading ℕ
named_or None next fault = Err (Mismatch fault)
named_or (Some code) next fault = Ok (code, next)

-- so many bytes that are one of the names, in any case
abbrev pub code_at : List Named → ℕ → List ℕ → Option ℕ
code_at table size text =
    if nat_lt (length text) size then None else first_code (str_eq_ignore_ascii_case (take size text)) table

-- one of the names, all of which have this length
unfoldable pub name_at : List Named → ℕ → List ℕ → ℕ → Reading ℕ
name_at table size text at =
    named_or (code_at table size (drop at text)) (at + size) (at + reach table (drop at text))

-- whether the text begins with the name, in any case
abbrev pub begins_with : List ℕ → List ℕ → Bool
begins_with text name = str_eq_ignore_ascii_case (take (length name) text) name

-- the code and the length of the first name with which the text begins
abbrev pub begun : List Named → List ℕ → Option (ℕ × ℕ)
begun [] text = None
begun (row ∷ rows) text = (if begins_with text row.0 then Some (row.1, length row.0) else begun rows text)

abbrev pub begun_or : Option (ℕ × ℕ) → ℕ → ℕ → Reading ℕ
begun_or None at fault = Err (Mismatch fault)
begun_or (Some name) at fault = Ok (name.0, at + name.1)

-- one of the names, none of which begins another
unfoldable pub full_name_at : List Named → List ℕ → ℕ → Reading ℕ
full_name_at table text at = begun_or (begun table (drop at text)) at (at + reach table (drop at text))

-- minutes, behind a colon that may be left out or not
abbrev pub minutes_behind : Colon → List ℕ → ℕ → Reading ℕ
minutes_behind Optional text at = if stands 58 text at then number 2 0 59 text (at + 1) else number 2 0 59 text at
minutes_behind Required text at = if stands 58 text at then number 2 0 59 text (at + 1) else Err (Mismatch at)
minutes_behind Missing text at = number 2 0 59 text at

-- hours and minutes, in seconds
abbrev pub offset : Colon → List ℕ → ℕ → Reading ℕ
offset colon text at =
    and_then (number 2 0 23 text at) (λ hours behind.
    and_then (minutes_behind colon text behind) (λ minutes next. Ok (hours * 3600 + minutes * 60, next)))

-- a sign with hours and minutes, in seconds east of UTC
unfoldable pub signed : Colon → List ℕ → ℕ → Reading ℤ
signed colon text at =
    if stands 43 text at then and_then (offset colon text (at + 1)) (λ seconds next. Ok (pos seconds, next))
    else (if stands 45 text at then and_then (offset colon text (at + 1)) (λ seconds next. Ok (neg_ℤ (pos seconds), next))
    else Err (Mismatch at))

-- `Z`, or a sign with hours and minutes
unfoldable pub zone : Colon → List ℕ → ℕ → Reading ℤ
zone colon text at = if stands 90 text at then Ok (pos 0, at + 1) else signed colon text at

-- these bytes, which name UTC
abbrev pub letters : List ℕ → List ℕ → ℕ → Reading ℤ
letters [] text at = Ok (pos 0, at)
letters (byte ∷ bytes) text at = (if stands byte text at then letters bytes text (at + 1) else Err (Mismatch at))

abbrev pub zone_name : List ℕ → ℕ → Reading ℤ
zone_name text at = if stands 71 text at then letters (codes "GMT") text at else letters (codes "UTC") text at
