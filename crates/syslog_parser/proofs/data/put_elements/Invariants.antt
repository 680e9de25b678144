use Rattle.std.proofs.Common.{length}
use denote.Text.{Utf8}
use denote.Shadow.{shadow}
use Rattle.entry_model.specs.Seen.{seen}
use Rattle.syslog_parser.proofs.SoFar.{ElementsSoFar}
use Rattle.syslog_parser.proofs.data.put_elements.Given as goal

abbrev pub invariant-elements : goal.invariant-elements
invariant-elements l = record { utf8 : shadow (Utf8 l.rest); read : ElementsSoFar l.text l.rest (seen l.fn.members.entries) (seen l.members.entries) }

abbrev pub decreases-elements : goal.decreases-elements
decreases-elements l = length l.rest
