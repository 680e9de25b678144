-- Where a text stops being the front of an expression, word by word.
use Rattle.std.specs.Prelude.{◌≡◌, ℕ, ◌+◌, ◌≤◌, true, false, List, [], ◌∷◌, ◌++◌, length, drop}
use Rattle.expr_lang.specs.declared.token.Token.{Token}
use Rattle.expr_lang.specs.declared.token.Token.TheVariants as token
use Rattle.expr_lang.specs.Grammar.{Spells, Disjoined}
use Rattle.expr_lang.specs.Longest.{IsSpelling, IsLongest}
use Rattle.expr_lang.specs.Patterns.{is_pattern}
use Rattle.expr_lang.specs.Row.{Placed, IsToken, past_blanks}
use Rattle.expr_lang.specs.Tree.{Tree}

-- the text has these words from `at` on, and the next one would stand at `next`
abbrev pub IsFront : List ℕ → ℕ → List Placed → ℕ → Type 0
IsFront text at [] next = next ≡ past_blanks text at
IsFront text at (placed ∷ row) next =
    (placed.1 ≡ past_blanks text at) × ((n : ℕ) × IsToken (drop placed.1 text) placed.0 n × IsFront text (placed.1 + n) row next)

-- some words can follow, so that all of them spell a tree
abbrev pub Opens : List Placed → Type 0
Opens words = (more : List Placed) × (tree : Tree) × Spells 32 Disjoined (words ++ more) tree

-- each text behind `matches` among the words is a pattern
abbrev pub ArePatterns : List Placed → Type 0
ArePatterns words = (before more : List Placed) (matches place : ℕ) (source : List ℕ)
    → words ≡ before ++ (token.Matches, matches) ∷ (token.Text source, place) ∷ more → is_pattern source ≡ true

-- the bytes spell a word that can stand at this place, behind the words
abbrev pub CanStand : List Placed → ℕ → List ℕ → Type 0
CanStand words at = IsSpelling (λ word. Opens (words ++ (word, at) ∷ []))

-- a negation stands where an operand can stand. It is refused only where it would open one level too many
abbrev pub IsTooDeep : List ℕ → List Placed → ℕ → Type 0
IsTooDeep text words at = ((n : ℕ) × IsToken (drop at text) token.Not n) × Opens (words ++ (token.SeverityText, at) ∷ [])

-- the words before the place can go on, but not with the word that stands there, if one does; or the text is over, and
-- they spell nothing yet
pub record IsFaultAt (text : List ℕ) (place : ℕ) : Type 0 where
  pub words : List Placed
  pub at : ℕ
  pub front : IsFront text 0 words at
  pub opens : Opens words
  pub patterns : ArePatterns words
  pub refused : (word : Token) (n : ℕ) → IsToken (drop at text) word n → Opens (words ++ (word, at) ∷ []) → ⊥
  pub partial : (tree : Tree) → length text ≤ at → Spells 32 Disjoined words tree → ⊥
  -- the place is behind the most bytes with which the rest of the text begins a word that can stand there, or at a
  -- negation that opens a level too many
  pub most : ℕ
  pub is : place ≡ at + most
  pub to : place ≤ length text
  pub too_deep : IsTooDeep text words at → most ≡ 0
  pub longest : (IsTooDeep text words at → ⊥) → IsLongest (CanStand words at) (drop at text) most

-- the first text behind `matches` that is no pattern
pub record IsPatternFaultAt (text : List ℕ) (place : ℕ) : Type 0 where
  pub before : List Placed
  pub matches : ℕ
  pub front : IsFront text 0 (before ++ (token.Matches, matches) ∷ []) place
  pub opens : Opens (before ++ (token.Matches, matches) ∷ [])
  pub patterns : ArePatterns (before ++ (token.Matches, matches) ∷ [])
  pub source : List ℕ
  pub n : ℕ
  pub stands : Opens (before ++ (token.Matches, matches) ∷ (token.Text source, place) ∷ [])
  pub literal : IsToken (drop place text) (token.Text source) n
  pub no_pattern : is_pattern source ≡ false
