-- What can be read from a place of a text on.
use Rattle.std.specs.Prelude.{◌≡◌, ℕ, List, Some, nat_le, nat_lt, ◌&&◌, if◌then◌else◌, ⊤}
use Rattle.expr_lang.specs.declared.read.ExprReadFault.{ExprReadFault}
use Rattle.expr_lang.specs.declared.read.ExprReadFault.TheVariants.{Syntax, Pattern, Memory}
use Rattle.expr_lang.specs.Fault.{IsFaultAt, IsPatternFaultAt}
use Rattle.expr_lang.specs.Grammar.{HavePatterns}
use Rattle.expr_lang.specs.Machine.{State, start, finished}
use Rattle.expr_lang.specs.Row.{Placed, IsRow}
use Rattle.expr_lang.specs.Tree.{Tree}

-- from a place and a state on, the words of the text lead to the tree
abbrev pub Reads : List ℕ → ℕ → State → Tree → Type 0
Reads text at state tree = (row : List Placed) × IsRow text at row × (finished state row ≡ Some tree)

-- the words of the text lead to no tree, or one of them is a text that is no pattern
abbrev pub IsParseFault : List ℕ → ExprReadFault → Type 0
IsParseFault text (Syntax at) = ((tree : Tree) → Reads text 0 start tree → ⊥) × IsFaultAt text at
IsParseFault text (Pattern at) = ((tree : Tree) → Reads text 0 start tree → HavePatterns tree → ⊥) × IsPatternFaultAt text at
IsParseFault text Memory = ⊤

-- where the length comes first
abbrev pub cut : ExprReadFault → ℕ → ExprReadFault
cut (Syntax at) length = (if nat_le 4096 at && nat_lt 4096 length then Syntax 4096 else Syntax at)
cut (Pattern at) length = (if nat_le 4096 at && nat_lt 4096 length then Syntax 4096 else Pattern at)
cut Memory length = Memory
