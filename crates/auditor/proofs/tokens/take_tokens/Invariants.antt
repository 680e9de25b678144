use Rattle.std.proofs.Common.{◌-◌, length}
use Rattle.pipeline.specs.Parts.{settings_of}
use Rattle.auditor.proofs.Taking.{TakesOn}
use Rattle.auditor.proofs.tokens.take_tokens.Given as goal

abbrev pub invariant-taking : goal.invariant-taking
invariant-taking l = TakesOn (settings_of l.pipe) l.path l.before l.room l.bytes l.at l.count l.entries.items

abbrev pub decreases-taking : goal.decreases-taking
decreases-taking l = length l.bytes - l.at
