use Rattle.std.proofs.Common.{◌∙◌, map, ap, arith}
use Rattle.std.proofs.lemmas.List.{take_all}
use Rattle.file_pass.specs.Inner.Looks.{idle_of}
use Rattle.file_pass.proofs.Flagging.{looks_more}
use Rattle.file_pass.proofs.looks.each_look.Goals as goal

pub loop-place-preserved : goal.loop-place-preserved
loop-place-preserved c = record {
  within = omega (arith, c.loop-place-test.true, c.len.ensures.value);
  are = c.in_ok-push.ensures.items ∙ rw c.idle.ensures (looks_more c.args.tracker.now c.loop-place.place c.row.result.now c.loop-place.looks.items c.row.ensures c.loop-place.invariant.are);
}

pub returns : goal.returns
returns c = c.loop-place.invariant.are ∙ ap (map idle_of) (take_all c.loop-place.place c.args.tracker.now (omega (arith, c.loop-place-test.false, c.len.ensures.value)))
