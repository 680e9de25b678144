use Rattle.std.proofs.Common.{◌∙◌, sym, arith}
use Rattle.std.proofs.lemmas.List.{at_drop_more, at_drop_all}
use Rattle.recombine.specs.Table.{mark_on}
use Rattle.recombine.proofs.groups.mark_of.Goals as goal

pub loop-byte-preserved : goal.loop-byte-preserved
loop-byte-preserved c = record {
  small = omega arith;
  on = sym (at_drop_more (mark_on c.loop-byte.mark) c.args.source.now c.loop-byte.byte-index 0 c.loop-byte-test.true) ∙ c.loop-byte.invariant.on;
}

pub returns : goal.returns
returns c = sym (at_drop_all (mark_on c.loop-byte.mark) c.args.source.now c.loop-byte.byte-index c.loop-byte-test.false) ∙ c.loop-byte.invariant.on
