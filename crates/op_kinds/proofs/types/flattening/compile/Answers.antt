use Rattle.std.proofs.Common.{rules}
use Rattle.std.proofs.lemmas.Result.{err_from_is_err_and}
use Rattle.op_kinds.proofs.Readings.{no_member_of, no_member_at_a_root}
use Rattle.op_kinds.proofs.types.flattening.compile.Goals as goal

pub returns-in_err-field-clause-cause : goal.returns-in_err-field-clause-cause
returns-in_err-field-clause-cause c =
    let p = err_from_is_err_and c.from_residual.result c.from_residual.ensures.1 in
    rw (p.1, p.2) (no_member_of c.args.text.now _ c.in_err-field.ensures.cause)

pub returns-then-is_root-clause-cause : goal.returns-then-is_root-clause-cause
returns-then-is_root-clause-cause c =
    rw c.as_str.ensures (no_member_at_a_root c.args.text.now c.in_ok-field.field c.in_ok-field.ensures.ok (search rules))
