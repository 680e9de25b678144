use Rattle.std.proofs.Common.{ℕ, List, ◌++◌, length}
use Rattle.container_parser.specs.Inner.Strings.{Spells}
use Rattle.container_parser.proofs.written.unescape.Given as goal
use denote.Shadow.{shadow}
use denote.Text.{Utf8}

abbrev pub invariant-loop-special : goal.invariant-loop-special
invariant-loop-special l = record {
  utf8 : shadow (Utf8 l.rest);
  spells : (more behind : List ℕ) → Spells l.rest more behind → Spells l.text (l.content.bytes ++ more) behind;
}

abbrev pub decreases-loop-special : goal.decreases-loop-special
decreases-loop-special l = length l.rest
