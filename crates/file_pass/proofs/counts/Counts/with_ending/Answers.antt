use Rattle.std.proofs.Common.{rules}
use Rattle.file_pass.proofs.counts.Counts.with_ending.Goals as goal

pub returns-in-Whole : goal.returns-in-Whole
returns-in-Whole c = rw c.in-Whole.is (search rules)

pub returns-in-Failed : goal.returns-in-Failed
returns-in-Failed c = rw c.in-Failed.is (search rules)

pub returns-in-Shrunk : goal.returns-in-Shrunk
returns-in-Shrunk c = rw c.in-Shrunk.is (search rules)
