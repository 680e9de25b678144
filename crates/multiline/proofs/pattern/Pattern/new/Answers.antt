use Rattle.std.proofs.Common.{subst}
use Rattle.regex_syntax.specs.Verdict.{default_config}
use Rattle.regex.specs.Failures.{IsRightKind}
use Rattle.regex.specs.Names.{names_of}
use Rattle.multiline.proofs.Patterns.{is_pattern_read, is_no_pattern}
use Rattle.multiline.proofs.pattern.Pattern.new.Goals as goal

pub returns-in-Err-Syntax-clause-fault : goal.returns-in-Err-Syntax-clause-fault
returns-in-Err-Syntax-clause-fault c =
    let arm = c.in-Err-Syntax in
    let source = c.args.source.now in
    is_no_pattern source arm.field-0-0.kind (subst (IsRightKind default_config source) arm.field-0-is arm.ensures.kind) (arm.ensures.by_grammar arm.field-0-0 arm.field-0-is)

pub returns-in-Ok-clause-read : goal.returns-in-Ok-clause-read
returns-in-Ok-clause-read c =
    let regex = c.in-Ok.regex in
    is_pattern_read c.args.source.now regex.pattern.program.hir (names_of regex.pattern.names.items) (rw (c.in-Ok.ensures.config, c.in-Ok.ensures.source) at c.in-Ok.ensures.read)
