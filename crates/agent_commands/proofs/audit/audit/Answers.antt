use Rattle.std.proofs.Common.{ℕ, sym, ◌∙◌, ap}
use Rattle.std.specs.Prelude.{Err}
use Rattle.outside.proofs.Telling.{told_weaker}
use Rattle.file_pass.specs.TreeTerms.{GoesLater}
use Rattle.agent_commands.proofs.AuditLemmas.{agrees_by_fault, few_where_it_stands}
use Rattle.agent_commands.proofs.StatusLemmas.{auditing_count, some_fault}
use Rattle.agent_commands.specs.Audit.{failed, no_memory, not_audited, tells}
use Rattle.agent_commands.specs.Status.{status_of}
use Rattle.agent_commands.proofs.audit.audit.Goals as goal

-- ---- it wasn't audited, or a row differs

pub returns-in-Err-clause-ends : goal.returns-in-Err-clause-ends
returns-in-Err-clause-ends g c = not_audited _ (record {
  fault = c.in-Err.fault;
  is = c.refuse.ensures.status ∙ ap status_of c.from.ensures;
  refused = c.in-Err.ensures.refused;
  differs = λ file line same. c.in-Err.ensures.differs file line (ap Err same);
  told = rw c.from.ensures at c.refuse.ensures.told;
})

pub returns-in-Err-clause-agrees : goal.returns-in-Err-clause-agrees
returns-in-Err-clause-agrees g c =
    let trees = g.T.Tree.meaning in
    agrees_by_fault g.D.Disk.meaning.images c.no_row_that_stands_differs.ensures trees c.args.disk.now c.refuse.result c.in-Err.fault c.args.tree.now c.audit.new.tree (c.refuse.ensures.status ∙ ap status_of c.from.ensures)
    (told_weaker _ GoesLater (trees.world c.args.tree.now) (trees.world c.audit.new.tree) (λ x y k. k.later) c.audit.ensures.tree.world)
    (λ file line same. c.in-Err.ensures.differs file line (ap Err same))

pub returns-in-Err-clause-later : goal.returns-in-Err-clause-later
returns-in-Err-clause-later g c = let trees = g.T.Tree.meaning in told_weaker _ GoesLater (trees.world c.args.tree.now) (trees.world c.audit.new.tree) (λ x y k. k.later) c.audit.ensures.tree.world

pub returns-in-Err-clause-disk_failed : goal.returns-in-Err-clause-disk_failed
returns-in-Err-clause-disk_failed g c = λ is. (auditing_count ℕ c.in-Err.fault _ _ c.in-Err.ensures.cause).0 (sym (c.refuse.ensures.status ∙ ap status_of c.from.ensures) ∙ is)

pub returns-in-Err-clause-disk_stood : goal.returns-in-Err-clause-disk_stood
returns-in-Err-clause-disk_stood g c = λ other. (auditing_count ℕ c.in-Err.fault _ _ c.in-Err.ensures.cause).1 (λ is. other (c.refuse.ensures.status ∙ ap status_of c.from.ensures ∙ is))

pub returns-in-Err-clause-report_failed : goal.returns-in-Err-clause-report_failed
returns-in-Err-clause-report_failed g c = λ is. absurd ((some_fault c.from.result).0 (sym c.refuse.ensures.status ∙ is))

pub returns-in-Err-clause-report_stood : goal.returns-in-Err-clause-report_stood
returns-in-Err-clause-report_stood g c = λ is. absurd ((some_fault c.from.result).1 (sym c.refuse.ensures.status ∙ is))

-- ---- it was

pub returns-in-Ok-report_audited-clause-ends : goal.returns-in-Ok-report_audited-clause-ends
returns-in-Ok-report_audited-clause-ends g c = tells (record {
  audited = c.in-Ok.audited;
  has = c.in-Ok.ensures.audited;
  few_absent = λ so. few_where_it_stands g.T.Tree.meaning (g.D.Disk.meaning.images.seen c.args.disk.now) c.in-Ok.audited c.args.tree.now c.audit.new.tree (c.in-Ok.ensures.audited so);
  told = c.in-Ok-report_audited.ensures.ok;
})

pub returns-in-Err-Failed-clause-ends : goal.returns-in-Err-Failed-clause-ends
returns-in-Err-Failed-clause-ends g c = failed (record { audited = c.in-Ok.audited; has = c.in-Ok.ensures.audited; told = c.report_audited.ensures.part })

pub returns-in-Err-Memory-clause-ends : goal.returns-in-Err-Memory-clause-ends
returns-in-Err-Memory-clause-ends g c = no_memory (record { audited = c.in-Ok.audited; has = c.in-Ok.ensures.audited; told = c.report_audited.ensures.part })
