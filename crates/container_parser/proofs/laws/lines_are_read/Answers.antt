use Rattle.container_parser.proofs.LinesRead.{line_is, is_line}
use Rattle.container_parser.proofs.laws.lines_are_read.Goals as goal

pub returns : goal.returns
returns c = λ format text line. (is_line format text line, line_is format text line)
