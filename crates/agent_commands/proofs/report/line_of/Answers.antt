use Rattle.std.proofs.Common.{◌++◌, ◌∙◌, ap}
use Rattle.std.specs.Prelude.{codes, decimal}
use Rattle.std.proofs.lemmas.Result.{IfOk-weaker}
use Rattle.agent_commands.proofs.Reporting.{joined_tail}
use Rattle.agent_commands.proofs.report.line_of.Goals as goal

pub returns-in-OutputShort : goal.returns-in-OutputShort
returns-in-OutputShort c = rw c.in-OutputShort.is (IfOk-weaker c.format-in-OutputShort.result _ _ (λ line is. is ∙ ap (λ t. codes "fault 6 short " ++ t) (joined_tail (decimal c.in-OutputShort.kept) (codes " ") (decimal c.in-OutputShort.found) (codes "\n"))) c.format-in-OutputShort.ensures.ok)

pub returns-in-Fingerprint : goal.returns-in-Fingerprint
returns-in-Fingerprint c = rw c.in-Fingerprint.is (IfOk-weaker c.format-in-Fingerprint.result _ _ (λ line is. is ∙ ap (λ t. codes "fault 18 fingerprint " ++ t) (joined_tail (decimal c.in-Fingerprint.kept) (codes " ") (decimal c.in-Fingerprint.found) (codes "\n"))) c.format-in-Fingerprint.ensures.ok)

pub returns-in-Differs : goal.returns-in-Differs
returns-in-Differs c = rw c.in-Differs.is (IfOk-weaker c.format-in-Differs.result _ _ (λ line is. is ∙ ap (λ t. codes "fault 20 differs " ++ t) (joined_tail (decimal c.in-Differs.file) (codes " ") (decimal c.in-Differs.line) (codes "\n"))) c.format-in-Differs.ensures.ok)
