use Rattle.std.proofs.Common.{◌≡◌, ◌<◌, drop}
use Rattle.recombine.specs.Table.{mark_on}
use Rattle.recombine.proofs.groups.mark_of.Given as goal

abbrev pub invariant-loop-byte : goal.invariant-loop-byte
invariant-loop-byte l = record {
  small : l.mark < 256;
  on : mark_on l.mark (drop l.byte-index l.source) ≡ mark_on 0 l.source;
}
