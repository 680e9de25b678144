use Rattle.std.proofs.Common.{sym, arith}
use Rattle.file_pass.specs.Fed.{rules_in}
use Rattle.file_pass.proofs.FlushLemmas.{never_on, on_here}
use Rattle.file_pass.proofs.flushing.may_flush.Goals as goal

pub returns-then-flush_after-eq0 : goal.returns-then-flush_after-eq0
returns-then-flush_after-eq0 c = sym (never_on (rules_in c.args.setup.now) c.args.size c.args.ending c.args.offset (omega (arith, c.if-flush_after-eq0.true, c.flush_after.ensures)))

pub returns-in-Whole : goal.returns-in-Whole
returns-in-Whole c = rw c.in-Whole.is (on_here (rules_in c.args.setup.now) c.args.size c.args.offset (omega (arith, c.if-flush_after-eq0.false, c.flush_after.ensures)))
