use Rattle.std.proofs.lemmas.List.{get_or_default}
use Rattle.whole_runs.proofs.Adding.{targets_loop}
use Rattle.whole_runs.proofs.deliver.add_targets.Goals as goal

pub loop-place-preserved : goal.loop-place-preserved
loop-place-preserved g c =
    targets_loop c.args.calls.now.items c.loop-place.calls.items c.add_call.new.calls.items c.in-Some.others.now c.loop-place.place _ c.args.at.now c.args.item c.in_ok-copy.copy
    c.in_ok-copy.ensures c.loop-place.invariant c.in_ok-add_call.ensures c.loop-place-test.true (get_or_default _ _ _ _ c.loop-place-test.true)
