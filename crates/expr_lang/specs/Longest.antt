-- How many bytes of a text begin a word.
use Rattle.std.specs.Prelude.{◌≡◌, ℕ, ◌+◌, ◌≤◌, ◌==◌, if◌then◌else◌, List, [], ◌∷◌, take, ◌⊎◌}
use Rattle.expr_lang.specs.declared.token.Token.{Token}
use Rattle.expr_lang.specs.Row.{IsToken}

-- how many bytes at the front the two have in common
abbrev pub common : List ℕ → List ℕ → ℕ
common [] others = 0
common (byte ∷ bytes) [] = 0
common (byte ∷ bytes) (other ∷ others) = (if byte == other then 1 + common bytes others else 0)

-- the bytes that one of the words takes at the front of some text
abbrev pub IsSpelling : (Token → Type 0) → List ℕ → Type 0
IsSpelling Fits spelling = (word : Token) × (n : ℕ) × (bytes : List ℕ) × Fits word × IsToken bytes word n × (take n bytes ≡ spelling)

-- the most bytes at its front that a text has in common with one of the spellings
pub record IsLongest (Spells : List ℕ → Type 0) (text : List ℕ) (most : ℕ) : Type 0 where
  pub begins : (most ≡ 0) ⊎ ((spelling : List ℕ) × Spells spelling × (common spelling text ≡ most))
  pub no_further : (spelling : List ℕ) → Spells spelling → common spelling text ≤ most
