use Rattle.std.proofs.Common.{sym}
use Rattle.op_kinds.proofs.Readings.{count_answers}
use Rattle.op_kinds.proofs.types.time_parsing.time_kind.Goals as goal

pub returns-in-None-clause-answers : goal.returns-in-None-clause-answers
returns-in-None-clause-answers c =
    rw c.in-Epoch.is (count_answers c.args.spec.now.layout (sym (rw c.as_str.ensures at c.in-None.ensures)))
