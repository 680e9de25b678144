use Rattle.std.specs.Prelude.{option_map}
use Rattle.expr_lang.specs.TreeOf.{tree_of}
use Rattle.op_kinds.specs.Readings.{condition_readings}
use Rattle.op_kinds.proofs.Compiled.{condition_is_read}
use Rattle.op_kinds.proofs.Readings.{caused_alone, least_caused}
use Rattle.op_kinds.proofs.compiling.refusal.Goals as goal

pub returns-in-Ok : goal.returns-in-Ok
returns-in-Ok c = λ all caused.
    caused_alone all (condition_readings c.args.text.now) c.args.own (condition_is_read c.args.text.now (option_map tree_of c.in-Ok._condition) c.in-Ok.ensures.ok) caused

pub returns-in-Err : goal.returns-in-Err
returns-in-Err c = λ all caused.
    rw c.or_less.ensures (least_caused all (condition_readings c.args.text.now) c.args.own c.in-Err.other caused c.in-Err.ensures.cause)
