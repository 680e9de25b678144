use Rattle.op_kinds.proofs.Readings.{go_layout_answers}
use Rattle.op_kinds.proofs.types.time_parsing.go_layout.Goals as goal

pub returns-in-Err-clause-answers : goal.returns-in-Err-clause-answers
returns-in-Err-clause-answers c =
    rw c.from.ensures (go_layout_answers c.args.text.now c.in-Err.fault (rw c.as_str.ensures at c.in-Err.ensures.fault))
