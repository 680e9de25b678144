use Rattle.std.proofs.Common.{ℕ, sym, ◌∙◌, ap}
use Rattle.agent_commands.proofs.StatusLemmas.{reading_count, some_fault}
use Rattle.agent_commands.specs.Committed.{failed, no_memory, tells, unread}
use Rattle.agent_commands.specs.Status.{status_of}
use Rattle.agent_commands.proofs.committed.committed.Goals as goal

pub returns-in-Err-clause-ends : goal.returns-in-Err-clause-ends
returns-in-Err-clause-ends g c = unread _ (record { fault = c.in-Err.fault; is = c.refuse.ensures.status ∙ ap status_of c.from.ensures; cause = c.in-Err.ensures.fault; told = rw c.from.ensures at c.refuse.ensures.told })

pub returns-in-Err-clause-disk_failed : goal.returns-in-Err-clause-disk_failed
returns-in-Err-clause-disk_failed g c = λ is. (reading_count ℕ c.in-Err.fault _ _ c.in-Err.ensures.cause).0 (sym (c.refuse.ensures.status ∙ ap status_of c.from.ensures) ∙ is)

pub returns-in-Err-clause-disk_stood : goal.returns-in-Err-clause-disk_stood
returns-in-Err-clause-disk_stood g c = λ other. (reading_count ℕ c.in-Err.fault _ _ c.in-Err.ensures.cause).1 (λ is. other (c.refuse.ensures.status ∙ ap status_of c.from.ensures ∙ is))

pub returns-in-Err-clause-report_failed : goal.returns-in-Err-clause-report_failed
returns-in-Err-clause-report_failed g c = λ is. absurd ((some_fault c.from.result).0 (sym c.refuse.ensures.status ∙ is))

pub returns-in-Err-clause-report_stood : goal.returns-in-Err-clause-report_stood
returns-in-Err-clause-report_stood g c = λ is. absurd ((some_fault c.from.result).1 (sym c.refuse.ensures.status ∙ is))

pub returns-in-Ok-report_length-clause-ends : goal.returns-in-Ok-report_length-clause-ends
returns-in-Ok-report_length-clause-ends g c = tells (record { size = c.in-Ok.size; kept = c.in-Ok.ensures.kept; told = c.in-Ok-report_length.ensures.ok })

pub returns-in-Err-Failed-clause-ends : goal.returns-in-Err-Failed-clause-ends
returns-in-Err-Failed-clause-ends g c = failed (record { size = c.in-Ok.size; kept = c.in-Ok.ensures.kept; told = c.report_length.ensures.part })

pub returns-in-Err-Memory-clause-ends : goal.returns-in-Err-Memory-clause-ends
returns-in-Err-Memory-clause-ends g c = no_memory (record { size = c.in-Ok.size; kept = c.in-Ok.ensures.kept; told = c.report_length.ensures.part })
