-- How many bytes at the front of a text begin an int or a text between quotes.
use Rattle.std.specs.Prelude.{ℕ, ◌+◌, ◌-◌, ◌*◌, ◌^◌, Bool, true, false, ◌==◌, nat_le, if◌then◌else◌, List, [], ◌∷◌}
use Rattle.std.specs.List.{take_while}
use Rattle.std.specs.Option.{option_map_or}
use Rattle.expr_lang.specs.declared.token.Token.{Token}
use Rattle.expr_lang.specs.declared.token.Token.TheVariants as token
use Rattle.expr_lang.specs.Words.{is_digit, is_quote, escaped}

abbrev pub is_text : Token → Bool
is_text (token.Text bytes) = true
is_text _ = false

abbrev pub is_int : Token → Bool
is_int (token.Int z) = true
is_int _ = false

abbrev pub is_path : Token → Bool
is_path (token.Path place) = true
is_path _ = false

-- of the bytes behind the first quote, up to the quote that closes the text or the byte that can't be escaped
unfoldable pub quoted_length : ℕ → Bool → List ℕ → ℕ
quoted_length quote behind [] = 0
quoted_length quote true (byte ∷ bytes) = option_map_or (λ one. 1 + quoted_length quote false bytes) (escaped byte) 0
quoted_length quote false (byte ∷ bytes) =
    (if byte == 92 then 1 + quoted_length quote true bytes else
    (if byte == quote then 1 else 1 + quoted_length quote false bytes))

abbrev pub text_length_of : List ℕ → ℕ
text_length_of [] = 0
text_length_of (quote ∷ bytes) = (if is_quote quote then 1 + quoted_length quote false bytes else 0)

-- of the digits that go on a number, while it is at most so large
abbrev pub fitting : ℕ → ℕ → List ℕ → ℕ
fitting most front [] = 0
fitting most front (digit ∷ digits) =
    (if nat_le (front * 10 + (digit - 48)) most then 1 + fitting most (front * 10 + (digit - 48)) digits else 0)

abbrev pub int_length_of : List ℕ → ℕ
int_length_of [] = 0
int_length_of (byte ∷ bytes) = (if byte == 45
    then 1 + fitting (2 ^ 63) 0 (take_while is_digit bytes)
    else fitting (2 ^ 63 - 1) 0 (take_while is_digit (byte ∷ bytes)))
