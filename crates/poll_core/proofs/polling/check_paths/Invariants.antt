use Rattle.std.proofs.Common.{◌<◌, get_or}
use Rattle.state_codec.specs.Rules.{IsShortText}
use Rattle.poll_core.proofs.polling.check_paths.Given as goal
use Rattle.std.specs.Prelude.{ℕ, []}

abbrev pub invariant-loop-path : goal.invariant-loop-path
invariant-loop-path l = (place : ℕ) → place < l.path-index → IsShortText (get_or l.paths place [])
