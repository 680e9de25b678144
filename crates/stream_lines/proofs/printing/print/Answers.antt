use Rattle.std.proofs.Common.{◌≡◌, ℕ, List, ◌++◌, take, sym, ap, subst, ◌∙◌}
use Rattle.std.proofs.lemmas.Result.{err_from_is_err_and}
use Rattle.std.specs.Prelude.{Err}
use Rattle.otlp_json.specs.IsOneLine.{IsOneLine}
use Rattle.outside.specs.World.{Told}
use Rattle.standing.specs.Marks.{Mark}
use Rattle.file_pass.specs.Full.{Crosses, line_of, lines_text}
use Rattle.stream_lines.specs.Limits.{most_printed}
use Rattle.stream_lines.specs.Prints.{Prints, PrintsPart}
use Rattle.stream_lines.proofs.Fronts.{front_is}
use Rattle.stream_lines.proofs.PrintLemmas.{before_then, part_of_take, part_then, write_tells}
use Rattle.stream_lines.proofs.printing.print.Goals as goal
use Rattle.file_pass.proofs.GoingOn.{text_append}

pub returns-in_err-write-clause-tells : goal.returns-in_err-write-clause-tells
returns-in_err-write-clause-tells g c = λ earlier marks begun is counted so_far.
    let written = g.K.Sink.meaning.written in
    let made = err_from_is_err_and c.from_residual.result c.from_residual.ensures.1 in
    let mid = written c.args.report.now in
    let new = written c.write.new.self in
    let part : Told (PrintsPart c.args.lines.now) mid new = part_of_take c.whole_front-before.result c.args.lines.now mid new c.in_err-write.ensures.written in
    write_tells (earlier ++ marks) c.in_err-write.field-0.0 c.from_residual.result begun new (made.1 ∙ ap Err made.2)
    (subst (λ (l : List ℕ). Told (PrintsPart l) begun new) (sym (text_append earlier marks ∙ ap (λ (l : List ℕ). lines_text earlier ++ l) (sym is)))
    (part_then (lines_text earlier) c.args.lines.now begun mid new so_far part))

pub returns-in-Some-clause-tells : goal.returns-in-Some-clause-tells
returns-in-Some-clause-tells g c = λ earlier marks begun is counted so_far.
    let written = g.K.Sink.meaning.written in
    let mid = written c.args.report.now in
    let new = written c.write.new.self in
    let one_line : (mark : Mark) → IsOneLine (line_of mark) = λ mark. c.line_is_one_line.ensures.one mark.id mark.number mark.observed mark.entry in
    let crosses : Crosses most_printed c.args.printed.now marks c.in-Some.length = c.in-Some.ensures.some marks is in
    let front : take c.whole_front-before.result c.args.lines.now ≡ lines_text crosses.front =
    front_is one_line most_printed c.args.printed.now marks c.in-Some.length crosses c.args.lines.now is c.requires.within c.in-Some.ensures.room c.whole_front-before.result c.whole_front-before.ensures.within c.whole_front-before.ensures.whole in
    before_then c.args.printed.now earlier marks c.in-Some.length begun mid new counted crosses so_far
    (subst (λ (l : List ℕ). Told (Prints l) mid new) front c.in_ok-write.ensures.written)

pub returns-in_err-write-2-clause-tells : goal.returns-in_err-write-2-clause-tells
returns-in_err-write-2-clause-tells g c = λ earlier marks begun is counted so_far.
    let written = g.K.Sink.meaning.written in
    let made = err_from_is_err_and c.from_residual-in_err-write-2.result c.from_residual-in_err-write-2.ensures.1 in
    let mid = written c.args.report.now in
    let new = written c.write-2.new.self in
    write_tells (earlier ++ marks) c.in_err-write-2.field-0.0 c.from_residual-in_err-write-2.result begun new (made.1 ∙ ap Err made.2)
    (subst (λ (l : List ℕ). Told (PrintsPart l) begun new) (sym (text_append earlier marks ∙ ap (λ (l : List ℕ). lines_text earlier ++ l) (sym is)))
    (part_then (lines_text earlier) c.args.lines.now begun mid new so_far c.in_err-write-2.ensures.written))
