use Rattle.std.specs.Prelude.{◌≡◌, ℕ, false, List, ⊤}
use Rattle.expr_lang.specs.declared.read.ExprReadFault.{ExprReadFault}
use Rattle.expr_lang.specs.declared.read.ExprReadFault.TheVariants.{Syntax, Pattern, Memory}
use Rattle.expr_lang.specs.Patterns.{is_pattern}

-- a text at this place that is no pattern
abbrev pub IsPatternFault : List ℕ → ℕ → ExprReadFault → Type 0
IsPatternFault source at (Syntax place) = ⊥
IsPatternFault source at (Pattern place) = (place ≡ at) × (is_pattern source ≡ false)
IsPatternFault source at Memory = ⊤
