use Rattle.std.specs.Prelude.{◌≡◌, ℕ, false, List, ⊤}
use Rattle.expr_lang.specs.declared.read.ExprReadFault.{ExprReadFault}
use Rattle.expr_lang.specs.declared.read.ExprReadFault.TheVariants.{Syntax, Pattern, Memory}
use Rattle.expr_lang.specs.declared.token.Token.{Token}
use Rattle.expr_lang.specs.declared.token.Token.TheVariants as token
use Rattle.expr_lang.specs.Machine.{Phase, wants_pattern}
use Rattle.expr_lang.specs.Patterns.{is_pattern}
use Rattle.expr_lang.specs.Tree.{Tree}

-- a pattern is wanted, and the word at this place is a text that is none
abbrev pub IsStepFault : Phase → Token → ℕ → ExprReadFault → Type 0
IsStepFault phase word at (Syntax place) = ⊥
IsStepFault phase word at (Pattern place) = (place ≡ at) × ((source : List ℕ) × (word ≡ token.Text source) × (is_pattern source ≡ false)) × ((operator : ℕ) × (left : Tree) × (phase ≡ wants_pattern operator left))
IsStepFault phase word at Memory = ⊤
