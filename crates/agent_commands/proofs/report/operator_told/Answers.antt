use Rattle.std.proofs.Common.{◌++◌, ◌∙◌, ap}
use Rattle.std.specs.Prelude.{codes, decimal}
use Rattle.std.proofs.lemmas.Result.{IfOk-weaker}
use Rattle.agent_commands.proofs.Reporting.{joined_words}
use Rattle.agent_commands.proofs.report.operator_told.Goals as goal

pub returns-in-Path : goal.returns-in-Path
returns-in-Path c = rw c.in-Path.is (IfOk-weaker c.format.result _ _ (λ words is. is ∙ ap (λ t. codes "operator " ++ t) (joined_words (decimal c.args.place) (codes " ") (codes "path"))) c.format.ensures.ok)

pub returns-in-Expr : goal.returns-in-Expr
returns-in-Expr c = rw c.in-Expr.is (IfOk-weaker c.format-in-Expr.result _ _ (λ words is. is ∙ ap (λ t. codes "operator " ++ t) (joined_words (decimal c.args.place) (codes " ") (codes "expr"))) c.format-in-Expr.ensures.ok)

pub returns-in-Memory : goal.returns-in-Memory
returns-in-Memory c = rw c.in-Memory.is (IfOk-weaker c.format-in-Memory.result _ _ (λ words is. is ∙ ap (λ t. codes "operator " ++ t) (joined_words (decimal c.args.place) (codes " ") (codes "memory"))) c.format-in-Memory.ensures.ok)

pub returns-in-Pattern : goal.returns-in-Pattern
returns-in-Pattern c = rw c.in-Pattern.is (IfOk-weaker c.format-in-Pattern.result _ _ (λ words is. is ∙ ap (λ t. codes "operator " ++ t) (joined_words (decimal c.args.place) (codes " ") (codes "pattern"))) c.format-in-Pattern.ensures.ok)

pub returns-in-Layout : goal.returns-in-Layout
returns-in-Layout c = rw c.in-Layout.is (IfOk-weaker c.format-in-Layout.result _ _ (λ words is. is ∙ ap (λ t. codes "operator " ++ t) (joined_words (decimal c.args.place) (codes " ") (codes "layout"))) c.format-in-Layout.ensures.ok)

pub returns-in-NoNames : goal.returns-in-NoNames
returns-in-NoNames c = rw c.in-NoNames.is (IfOk-weaker c.format-in-NoNames.result _ _ (λ words is. is ∙ ap (λ t. codes "operator " ++ t) (joined_words (decimal c.args.place) (codes " ") (codes "no-names"))) c.format-in-NoNames.ensures.ok)
