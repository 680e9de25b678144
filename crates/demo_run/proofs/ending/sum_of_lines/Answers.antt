use Rattle.std.proofs.Common.{◌+◌, ◌∙◌, ap, arith, refl, sym}
use Rattle.std.proofs.lemmas.List.{take_all}
use Rattle.demo_run.specs.Shown.{lines_of}
use Rattle.demo_run.proofs.Sums.{one_more, part_of_all}
use Rattle.demo_run.proofs.ending.sum_of_lines.Goals as goal

pub loop-row-init : goal.loop-row-init
loop-row-init c = refl

pub overflow_add-lines : goal.overflow_add-lines
overflow_add-lines c =
    let more = one_more c.args.rows.now c.loop-row.row-index c.row-item.result c.loop-row-test.true c.row-item.is in
    let all = part_of_all c.args.rows.now (c.loop-row.row-index + 1) in
    omega (arith, more, all, c.loop-row.invariant, c.requires)

pub loop-row-preserved : goal.loop-row-preserved
loop-row-preserved c = ap (λ n. n + c.row-item.result.lines) c.loop-row.invariant ∙ sym (one_more c.args.rows.now c.loop-row.row-index c.row-item.result c.loop-row-test.true c.row-item.is)

pub returns : goal.returns
returns c = c.loop-row.invariant ∙ ap lines_of (take_all c.loop-row.row-index c.args.rows.now (omega arith))
