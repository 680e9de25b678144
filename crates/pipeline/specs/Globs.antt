-- The globs of some settings.
use Rattle.std.specs.Prelude.{◌≡◌, ℕ, ◌<◌, List, length, Bool, Some, slice_get, ⊤}
use Rattle.std.specs.Str.{chars}
use Rattle.glob_match.specs.GlobFaults.{IsReadFault}
use Rattle.glob_match.specs.GlobText.{IsGlobText}
use Rattle.glob_match.specs.Pattern.{Pattern}
use Rattle.glob_match.specs.declared.glob.GlobFault.TheVariants.{Syntax}
use Rattle.pipeline.specs.Listed.{ArePaired}
use Rattle.pipeline.specs.declared.fault.BuildFault.{BuildFault}
use Rattle.pipeline.specs.declared.fault.BuildFault.TheVariants.{Glob, Multiline, SameId, Operator, Graph, Memory}

abbrev pub IsPatternOf : List ℕ → Pattern → Type 0
IsPatternOf text pattern = IsGlobText (chars text) pattern

-- the text at each place spells the pattern there
pub record ArePatterns (texts : List (List ℕ)) (patterns : List Pattern) : Type 0 where
  pub many : length patterns ≡ length texts
  pub each : ArePaired IsPatternOf texts patterns

-- the text at this place spells no pattern, which goes wrong at this byte, and those before it do
pub record IsNoGlobAt (texts : List (List ℕ)) (place at : ℕ) : Type 0 where
  pub text : List ℕ
  pub there : slice_get texts place ≡ Some text
  pub wrong : IsReadFault (chars text) (Syntax at)
  pub before : (k : ℕ) (other : List ℕ) → k < place → slice_get texts k ≡ Some other → (pattern : Pattern) × IsPatternOf other pattern

-- why the includes, or the excludes, aren't all globs
abbrev pub IsGlobFault : Bool → List (List ℕ) → BuildFault → Type 0
IsGlobFault exclude texts (Glob excluded place at) = (excluded ≡ exclude) × IsNoGlobAt texts place at
IsGlobFault exclude texts Multiline = ⊥
IsGlobFault exclude texts (SameId place) = ⊥
IsGlobFault exclude texts (Operator place found) = ⊥
IsGlobFault exclude texts (Graph fault) = ⊥
IsGlobFault exclude texts Memory = ⊤
