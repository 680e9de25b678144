use Rattle.std.proofs.Common.{length, string_bytes}
use denote.Text.{Utf8}
use denote.Shadow.{shadow}
use Rattle.syslog_parser.proofs.SoFar.{ValueSoFar}
use Rattle.syslog_parser.proofs.escaped.read_escaped.Given as goal

abbrev pub invariant-pieces : goal.invariant-pieces
invariant-pieces l = record { utf8 : shadow (Utf8 l.rest); read : ValueSoFar l.text l.rest (string_bytes l.value) }

abbrev pub decreases-pieces : goal.decreases-pieces
decreases-pieces l = length l.rest
