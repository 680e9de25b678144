use Rattle.std.proofs.Common.{◌∙◌}
use Rattle.std.proofs.lemmas.Result.{on_ok_weaker, IfErr-weaker}
use Rattle.entry_model.specs.LogRecord.{log_record}
use Rattle.field_ops.proofs.Moved.{moved_over}
use Rattle.field_ops.proofs.transfer.Move.apply.Goals as goal

pub returns-in-Below-clause-ok : goal.returns-in-Below-clause-ok
returns-in-Below-clause-ok c =
    let over = moved_over c.args.self.now.from c.args.self.now.to (log_record c.args.entry.now) c.in-Below.ensures in
    on_ok_weaker c.put_copy.result (λ put. over ∙ put) c.put_copy.ensures.ok

pub returns-in-Below-clause-fault : goal.returns-in-Below-clause-fault
returns-in-Below-clause-fault c =
    let over = moved_over c.args.self.now.from c.args.self.now.to (log_record c.args.entry.now) c.in-Below.ensures in
    IfErr-weaker c.put_copy.result _ _ (λ fault refused known. over ∙ refused known) c.put_copy.ensures.fault
