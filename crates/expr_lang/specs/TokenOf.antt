-- What is read at a place of a text.
use Rattle.std.specs.Prelude.{ℕ, List, Option, None, Some}
use Rattle.expr_lang.specs.declared.token.Token.{Token}
use Rattle.expr_lang.specs.Row.{IsToken}

-- the word that the bytes begin with, and its length; none where they begin with none
abbrev pub IsTokenOf : List ℕ → Option (Token × ℕ) → Type 0
IsTokenOf bytes None = (word : Token) (n : ℕ) → IsToken bytes word n → ⊥
IsTokenOf bytes (Some found) = IsToken bytes found.0 found.1
