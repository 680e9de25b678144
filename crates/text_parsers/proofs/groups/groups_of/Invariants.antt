use Rattle.std.proofs.Common.{◌≡◌, ◌+◌, ◌++◌, drop, length, zip}
use Rattle.regex.specs.Names.{names_of}
use Rattle.text_parsers.specs.Groups.{groups_from}
use Rattle.text_parsers.proofs.groups.groups_of.Given as goal

abbrev pub invariant-loop-index : goal.invariant-loop-index
invariant-loop-index l = record {
  as_many : length l.numbers.items ≡ length l.names.items;
  groups : zip l.numbers.items l.names.items ++ groups_from (l.index + 1) (drop l.index (names_of l.all)) ≡ groups_from 1 (names_of l.all);
}
