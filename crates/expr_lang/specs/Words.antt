-- The words of expressions.
use Rattle.std.specs.Prelude.{ℕ, ℤ, ◌+◌, ◌-◌, ◌*◌, ◌^◌, pos, neg_ℤ, Bool, true, false, ◌&&◌, ◌||◌, ◌==◌, nat_le, if◌then◌else◌, List, [], ◌∷◌, length, codes, slice_index, Option, None, Some, option_map, option_and_then}
use Rattle.std.specs.List.{take_while}
use Rattle.std.specs.Option.{option_or}
use Rattle.std.specs.Str.{bytes_eq}
use Rattle.expr_lang.specs.declared.token.Comparison.TheVariants.{Equal, NotEqual, Less, LessOrEqual, Greater, GreaterOrEqual, Contains, StartsWith, EndsWith, In}
use Rattle.expr_lang.specs.declared.token.Token.{Token}
use Rattle.expr_lang.specs.declared.token.Token.TheVariants as token

-- space, tab, LF and CR
abbrev pub is_blank : ℕ → Bool
is_blank byte = (byte == 32) || (byte == 9) || (byte == 10) || (byte == 13)

abbrev pub is_within : ℕ → ℕ → ℕ → Bool
is_within low high byte = nat_le low byte && nat_le byte high

abbrev pub is_digit : ℕ → Bool
is_digit byte = is_within 48 57 byte

-- ASCII letters, digits and `_`
unfoldable pub is_word_byte : ℕ → Bool
is_word_byte byte = is_within 97 122 byte || is_within 65 90 byte || is_digit byte || (byte == 95)

-- `"` and `'`
unfoldable pub is_quote : ℕ → Bool
is_quote byte = (byte == 34) || (byte == 39)

-- the whole run of word bytes at the front
abbrev pub word : List ℕ → List ℕ
word bytes = take_while is_word_byte bytes

unfoldable pub operand_word : List ℕ → Option Token
operand_word bytes =
    (if bytes_eq bytes (codes "true") then Some (token.Bool true) else
    (if bytes_eq bytes (codes "false") then Some (token.Bool false) else
    (if bytes_eq bytes (codes "nil") then Some token.Null else
    (if bytes_eq bytes (codes "severity_number") then Some token.SeverityNumber else
    (if bytes_eq bytes (codes "severity_text") then Some token.SeverityText else
    (if bytes_eq bytes (codes "not") then Some token.Not else None))))))

unfoldable pub operator_word : List ℕ → Option Token
operator_word bytes =
    (if bytes_eq bytes (codes "and") then Some token.And else
    (if bytes_eq bytes (codes "or") then Some token.Or else
    (if bytes_eq bytes (codes "contains") then Some (token.Compares Contains) else
    (if bytes_eq bytes (codes "startsWith") then Some (token.Compares StartsWith) else
    (if bytes_eq bytes (codes "endsWith") then Some (token.Compares EndsWith) else
    (if bytes_eq bytes (codes "in") then Some (token.Compares In) else
    (if bytes_eq bytes (codes "matches") then Some token.Matches else None)))))))

abbrev pub keyword : List ℕ → Option Token
keyword bytes = option_or (operand_word bytes) (operator_word bytes)

-- what two bytes begin with, and in how many bytes
unfoldable pub symbol : ℕ → ℕ → Option (Token × ℕ)
symbol first second =
    (if first == 40 then Some (token.OpenGroup, 1) else
    (if first == 41 then Some (token.CloseGroup, 1) else
    (if first == 91 then Some (token.OpenList, 1) else
    (if first == 93 then Some (token.CloseList, 1) else
    (if first == 44 then Some (token.Comma, 1) else
    (if first == 61 then (if second == 61 then Some (token.Compares Equal, 2) else None) else
    (if first == 33 then (if second == 61 then Some (token.Compares NotEqual, 2) else Some (token.Not, 1)) else
    (if first == 60 then (if second == 61 then Some (token.Compares LessOrEqual, 2) else Some (token.Compares Less, 1)) else
    (if first == 62 then (if second == 61 then Some (token.Compares GreaterOrEqual, 2) else Some (token.Compares Greater, 1)) else
    (if first == 38 then (if second == 38 then Some (token.And, 2) else None) else
    (if first == 124 then (if second == 124 then Some (token.Or, 2) else None) else None)))))))))))

-- the number that decimal digits write, behind those of `front`
abbrev pub number : ℕ → List ℕ → ℕ
number front [] = front
number front (digit ∷ digits) = number (front * 10 + (digit - 48)) digits

-- digits that fit 64 bits with a sign: from -2^63 to 2^63 - 1
unfoldable pub int_of : Bool → List ℕ → Option ℤ
int_of negative [] = None
int_of true (digit ∷ digits) =
    let n = number 0 (digit ∷ digits) in (if nat_le n (2 ^ 63) then Some (neg_ℤ (pos n)) else None)
int_of false (digit ∷ digits) =
    let n = number 0 (digit ∷ digits) in (if nat_le n (2 ^ 63 - 1) then Some (pos n) else None)

-- an int: `-` or nothing, then the whole run of digits
abbrev pub int_token : List ℕ → Option (Token × ℕ)
int_token [] = None
int_token (byte ∷ bytes) = (if byte == 45
    then option_map (λ z. (token.Int z, 1 + length (take_while is_digit bytes))) (int_of true (take_while is_digit bytes))
    else option_map (λ z. (token.Int z, length (take_while is_digit (byte ∷ bytes)))) (int_of false (take_while is_digit (byte ∷ bytes))))

-- what a byte stands for behind a backslash: `n`, `t` and `r` for LF, tab and CR, a backslash or a quote for itself
unfoldable pub escaped : ℕ → Option ℕ
escaped byte =
    (if byte == 110 then Some 10 else
    (if byte == 116 then Some 9 else
    (if byte == 114 then Some 13 else
    (if is_quote byte || (byte == 92) then Some byte else None))))

abbrev pub with_first : ℕ → List ℕ × ℕ → List ℕ × ℕ
with_first byte rest = (byte ∷ rest.0, rest.1 + 1)

-- the text up to the quote that closes it, and its bytes with that quote; the first stands behind a backslash or not
unfoldable pub quoted : ℕ → Bool → List ℕ → Option (List ℕ × ℕ)
quoted quote behind [] = None
quoted quote true (byte ∷ bytes) = option_and_then (λ one. option_map (with_first one) (quoted quote false bytes)) (escaped byte)
quoted quote false (byte ∷ bytes) =
    (if byte == 92 then option_map (λ rest. (rest.0, rest.1 + 1)) (quoted quote true bytes) else
    (if byte == quote then Some ([], 1) else option_map (with_first byte) (quoted quote false bytes)))

abbrev pub text_token : List ℕ → Option (Token × ℕ)
text_token [] = None
text_token (quote ∷ bytes) = option_map (λ found. (token.Text found.0, 1 + found.1)) (quoted quote false bytes)

abbrev pub is_root : List ℕ → Bool
is_root bytes = bytes_eq bytes (codes "body") || bytes_eq bytes (codes "attributes") || bytes_eq bytes (codes "resource")

-- whether a path begins here
abbrev pub begins_path : List ℕ → Bool
begins_path bytes = is_root (word bytes)

-- the word that is no path at the front, and its bytes
abbrev pub plain_token : List ℕ → Option (Token × ℕ)
plain_token [] = None
plain_token (byte ∷ bytes) =
    (if is_quote byte then text_token (byte ∷ bytes) else
    (if (byte == 45) || is_digit byte then int_token (byte ∷ bytes) else
    (if is_word_byte byte then option_map (λ found. (found, length (word (byte ∷ bytes)))) (keyword (word (byte ∷ bytes)))
    else symbol byte (slice_index bytes 0))))
