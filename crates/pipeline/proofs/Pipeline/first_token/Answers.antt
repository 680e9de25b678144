use Rattle.pipeline.specs.Parts.{settings_of}
use Rattle.pipeline.proofs.Cutting.{nothing_searched}
use Rattle.pipeline.proofs.Pipeline.first_token.Goals as goal

pub next_token-requires : goal.next_token-requires
next_token-requires c = nothing_searched (settings_of c.args.self.now) c.args.bytes.now
