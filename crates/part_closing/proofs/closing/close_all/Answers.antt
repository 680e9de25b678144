use Rattle.std.proofs.Common.{List, sym, subst, take, refl}
use Rattle.file_pass.specs.Full.{line_of}
use Rattle.file_tracker.specs.declared.row.Row.{Row}
use Rattle.otlp_json.specs.IsOneLine.{IsOneLine}
use Rattle.part_closing.proofs.ClosingLemmas.{closed_none, few, take_next}
use Rattle.part_closing.proofs.closing.close_all.Goals as goal
use Rattle.part_closing.specs.Closing.{HasClosed}
use Rattle.standing.specs.Marks.{Mark}

pub loop-place-init : goal.loop-place-init
loop-place-init c = closed_none c.args.closer.now (record { rows = c.new.result; lines = c.new-2.result; count = 0 }) c.new.ensures.items c.new-2.ensures.items refl

pub close_next-requires-clause-state : goal.close_next-requires-clause-state
close_next-requires-clause-state c = λ text. c.requires.states text c.loop-place.place c.row.result.now c.row.ensures

pub close_next-requires-clause-lines : goal.close_next-requires-clause-lines
close_next-requires-clause-lines c = c.requires.lines c.loop-place.place c.row.result.now c.row.ensures

pub close_next-requires-clause-count : goal.close_next-requires-clause-count
close_next-requires-clause-count c =
    let one_line : (mark : Mark) → IsOneLine (line_of mark) = λ mark. c.line_is_one_line.ensures.one mark.id mark.number mark.observed mark.entry in
    few one_line c.args.closer.now (take c.loop-place.place c.args.tracker.now) c.loop-place.closing c.loop-place.invariant

pub loop-place-preserved : goal.loop-place-preserved
loop-place-preserved c =
    let next = take_next c.args.tracker.now c.loop-place.place c.row.result.now c.row.ensures in
    subst (λ (rows : List Row). HasClosed c.args.closer.now rows c.close_next.new.closing) (sym next)
    (c.in_ok-close_next.ensures (take c.loop-place.place c.args.tracker.now) c.loop-place.invariant)
