-- What `read` answers for a text that is no expression.
use Rattle.std.specs.Prelude.{◌≡◌, ℕ, List, ◌≤◌, ◌<◌, ◌⊎◌, length, ⊤}
use Rattle.expr_lang.specs.declared.read.ExprReadFault.{ExprReadFault}
use Rattle.expr_lang.specs.declared.read.ExprReadFault.TheVariants.{Syntax, Pattern, Memory}
use Rattle.expr_lang.specs.Fault.{IsFaultAt, IsPatternFaultAt}
use Rattle.expr_lang.specs.Grammar.{IsExpression, HavePatterns, Spells, Disjoined}
use Rattle.expr_lang.specs.Row.{Placed, IsRow}
use Rattle.expr_lang.specs.Tree.{Tree}

-- the text of no tree
abbrev pub IsNoExpression : List ℕ → Type 0
IsNoExpression text = (tree : Tree) → IsExpression text tree → ⊥

-- a text that is too long, and has no earlier fault
abbrev pub IsTooLong : List ℕ → Type 0
IsTooLong text = (4096 < length text)
    × (((place : ℕ) × (4096 ≤ place) × (IsFaultAt text place ⊎ IsPatternFaultAt text place))
    ⊎ ((words : List Placed) × (tree : Tree) × IsRow text 0 words × Spells 32 Disjoined words tree × HavePatterns tree))

abbrev pub IsReadFault : List ℕ → ExprReadFault → Type 0
IsReadFault text (Syntax at) = IsNoExpression text × (at ≤ 4096) × (IsFaultAt text at ⊎ ((at ≡ 4096) × IsTooLong text))
IsReadFault text (Pattern at) = IsNoExpression text × (at < 4096) × IsPatternFaultAt text at
IsReadFault text Memory = ⊤
