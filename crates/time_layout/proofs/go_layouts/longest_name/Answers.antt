use Rattle.std.proofs.Common.{◌≡◌, ◌-◌, ◌+◌, ◌∙◌, sym, ap, arith}
use Rattle.time_layout.specs.GoLayouts.{longest, longest_name}
use Rattle.time_layout.proofs.GoSteps.{no_name, a_name}
use Rattle.time_layout.proofs.go_layouts.longest_name.Goals as goal

pub returns-in-Some-clause-is : goal.returns-in-Some-clause-is
unfolding longest_name
returns-in-Some-clause-is c =
    sym (c.loop-fewer.invariant ∙ a_name (10 - c.loop-fewer.fewer) c.in-Some.code c.args.text.now (omega arith) (sym c.in-Some.ensures.is))

pub loop-fewer-preserved : goal.loop-fewer-preserved
loop-fewer-preserved c =
    c.loop-fewer.invariant ∙ no_name (10 - c.loop-fewer.fewer) (10 - (c.loop-fewer.fewer + 1)) c.args.text.now (omega arith) (sym c.in_default.ensures.is)

pub returns-clause-is : goal.returns-clause-is
unfolding longest_name
returns-clause-is c =
    let none : 10 - c.loop-fewer.fewer ≡ 0 = omega arith in sym (c.loop-fewer.invariant ∙ ap (λ size. longest size c.args.text.now) none)
