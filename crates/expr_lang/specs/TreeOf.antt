-- The tree that an expression in memory stands for.
use Rattle.entry_model.specs.Datum.{datum}
use Rattle.regex.specs.Strings.{regex_source}
use Rattle.expr_lang.specs.declared.tree.Expr.{Expr}
use Rattle.expr_lang.specs.declared.tree.Node.{Node}
use Rattle.expr_lang.specs.declared.tree.Node.TheVariants.{Constant, Path, SeverityNumber, SeverityText, Not', And', Or', Compares', Matches'}
use Rattle.expr_lang.specs.Tree.{Tree, constant, path, severity_number, severity_text, negation, conjunction, disjunction, comparison, matching}

abbrev pub tree : Node → Tree
tree (Constant value) = constant (datum value)
tree (Path place) = path place
tree SeverityNumber = severity_number
tree SeverityText = severity_text
tree (Not' at p operand) = negation at (tree operand)
tree (And' at p left q right) = conjunction at (tree left) (tree right)
tree (Or' at p left q right) = disjunction at (tree left) (tree right)
tree (Compares' at compared p left q right) = comparison compared at (tree left) (tree right)
tree (Matches' at p left pattern) = matching at (tree left) (regex_source pattern.value.regex)

abbrev pub tree_of : Expr → Tree
tree_of expr = tree expr.root.now
