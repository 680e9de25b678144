use Rattle.pipeline.specs.Parts.{settings_of}
use Rattle.pipeline.proofs.Cutting.{nothing_searched}
use Rattle.pipeline.proofs.Pipeline.feed.Goals as goal

pub feed_behind-requires-clause-searched : goal.feed_behind-requires-clause-searched
feed_behind-requires-clause-searched c = nothing_searched (settings_of c.args.self.now) c.args.bytes.now
