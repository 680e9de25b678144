use Rattle.std.proofs.Common.{◌≡◌, ◌+◌, length}
use denote.Text.{Utf8}
use denote.Shadow.{shadow}
use Rattle.entry_model.specs.Seen.{seen}
use Rattle.text_parsers.proofs.Taking.{ReadTo}
use Rattle.text_parsers.proofs.key_value_op.KeyValueOp.pairs.Given as goal

abbrev pub invariant-pieces : goal.invariant-pieces
invariant-pieces l = record {
  utf8 : shadow (Utf8 l.rest);
  size : l.at + length l.rest ≡ length l.text;
  read : ReadTo l.self l.text l.at l.rest (seen l.members.entries);
}

abbrev pub decreases-pieces : goal.decreases-pieces
decreases-pieces l = length l.rest
