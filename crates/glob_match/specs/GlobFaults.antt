-- Where a text that spells no pattern goes wrong.
use Rattle.std.specs.Prelude.{◌≡◌, ℕ, ◌+◌, ◌<◌, ◌≤◌, List, [], ◌∷◌, ◌++◌, length, take, ◌⊎◌, encode_utf8_all, ⊤}
use Rattle.glob_match.specs.declared.glob.GlobFault.{GlobFault}
use Rattle.glob_match.specs.declared.glob.GlobFault.TheVariants.{Syntax, Memory}
use Rattle.glob_match.specs.GlobText.{IsGlobText}
use Rattle.glob_match.specs.Pattern.{Pattern}

-- some text that begins so spells a pattern
pub record BeginsGlob (front : List ℕ) : Type 0 where
  pub rest : List ℕ
  pub pattern : Pattern
  pub goes_on : IsGlobText (front ++ rest) pattern

-- the character at the place is the first with which no glob can begin so
pub record IsWrongAt (text : List ℕ) (place : ℕ) : Type 0 where
  pub within : place < length text
  pub before : BeginsGlob (take place text)
  pub wrong : BeginsGlob (take (place + 1) text) → ⊥

-- the text up to the place and a letter behind it are a glob: no bracket or brace is open there
abbrev pub IsClosedAt : List ℕ → ℕ → Type 0
IsClosedAt text place = (pattern : Pattern) × IsGlobText (take place text ++ 97 ∷ []) pattern

-- Only more text is missing. The place is that of the bracket or brace which isn't closed, the outer one of two, or the
-- text's end where all are closed.
pub record IsUnfinishedAt (text : List ℕ) (place : ℕ) : Type 0 where
  pub within : place ≤ length text
  pub begins : BeginsGlob text
  pub closed : IsClosedAt text place
  pub open_behind : (later : ℕ) → place < later → later ≤ length text → IsClosedAt text later → ⊥

-- the text spells no pattern, and this is the place of its fault among its characters
pub record IsFaultAt (text : List ℕ) (place : ℕ) : Type 0 where
  pub no_glob : (pattern : Pattern) → IsGlobText text pattern → ⊥
  pub there : IsWrongAt text place ⊎ IsUnfinishedAt text place

-- the fault of a text of these characters, its place told in bytes
abbrev pub IsReadFault : List ℕ → GlobFault → Type 0
IsReadFault text (Syntax at) = (place : ℕ) × IsFaultAt text place × (at ≡ length (encode_utf8_all (take place text)))
IsReadFault text Memory = ⊤
