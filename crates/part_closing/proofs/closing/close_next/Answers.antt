use Rattle.std.proofs.Common.{[], arith}
use Rattle.file_pass.specs.Full.{line_of}
use Rattle.otlp_json.specs.IsOneLine.{IsOneLine}
use Rattle.part_closing.proofs.ClosingLemmas.{bytes_more, closed_more, lines_ended}
use Rattle.part_closing.proofs.closing.close_next.Goals as goal
use Rattle.standing.specs.Marks.{Mark}

pub overflow_sub-closing : goal.overflow_sub-closing
overflow_sub-closing c = omega (arith, lines_ended c.args.closer.now c.args.row.now c.in_ok-ended.ended c.in_ok-ended.ensures.row [])

pub overflow_add-closing : goal.overflow_add-closing
overflow_add-closing c =
    let one_line : (mark : Mark) → IsOneLine (line_of mark) = λ mark. c.line_is_one_line.ensures.one mark.id mark.number mark.observed mark.entry in
    omega (arith, lines_ended c.args.closer.now c.args.row.now c.in_ok-ended.ended c.in_ok-ended.ensures.row [], bytes_more one_line c.args.closer.now c.args.row.now _ _ [] (c.in_ok-ended.ensures.lines []), c.requires.count)

pub returns : goal.returns
returns c = λ before has.
    closed_more c.args.closer.now before c.args.row.now c.args.closing.now _ has (record {
      ended = c.in_ok-ended.ended;
      rows = c.in_ok-push.ensures.items;
      ended_is = c.in_ok-ended.ensures.row;
      lines = c.in_ok-ended.ensures.lines;
      count = λ text. omega (arith, lines_ended c.args.closer.now c.args.row.now c.in_ok-ended.ended c.in_ok-ended.ensures.row text);
    })
