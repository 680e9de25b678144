use Rattle.std.proofs.Common.{rules}
use Rattle.file_pass.proofs.counts.Counts.with.Goals as goal

pub returns-in-Gone : goal.returns-in-Gone
returns-in-Gone c = rw c.in-Gone.is (search rules)

pub returns-in-Missed : goal.returns-in-Missed
returns-in-Missed c = rw c.in-Missed.is (search rules)

pub returns-in-Nothing : goal.returns-in-Nothing
returns-in-Nothing c = rw c.in-Nothing.is (search rules)
