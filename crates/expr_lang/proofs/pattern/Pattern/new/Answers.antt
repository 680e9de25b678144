use Rattle.std.proofs.Common.{refl, subst}
use Rattle.regex_syntax.specs.Verdict.{default_config}
use Rattle.regex.specs.Failures.{IsRightKind}
use Rattle.expr_lang.proofs.Patterns.{is_no_pattern}
use Rattle.expr_lang.proofs.pattern.Pattern.new.Goals as goal

pub returns-in-Err-Syntax-clause-fault : goal.returns-in-Err-Syntax-clause-fault
returns-in-Err-Syntax-clause-fault c =
    let arm = c.in-Err-Syntax in
    let source = c.args.source.now in
    (refl, is_no_pattern source arm.field-0-0.kind (subst (IsRightKind default_config source) arm.field-0-is arm.ensures.kind) (arm.ensures.by_grammar arm.field-0-0 arm.field-0-is))
