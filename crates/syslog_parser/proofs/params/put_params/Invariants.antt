use Rattle.std.proofs.Common.{length}
use denote.Text.{Utf8}
use denote.Shadow.{shadow}
use Rattle.entry_model.specs.Seen.{seen}
use Rattle.syslog_parser.proofs.SoFar.{ParamsSoFar}
use Rattle.syslog_parser.proofs.params.put_params.Given as goal

abbrev pub invariant-params : goal.invariant-params
invariant-params l = record { utf8 : shadow (Utf8 l.rest); read : ParamsSoFar l.text l.rest (seen l.fn.members.entries) (seen l.members.entries) }

abbrev pub decreases-params : goal.decreases-params
decreases-params l = length l.rest
