use Rattle.json_text.proofs.Steps.{ascii_start, ascii_end}
use Rattle.json_text.proofs.number.number.Goals as goal

pub range-requires-clause-start_boundary : goal.range-requires-clause-start_boundary
range-requires-clause-start_boundary c = λ _. ascii_start c.args.text.now c.args.at c.in-Ok.end c.in-Ok.ensures.some c.in-Ok.ensures.ok.1 c.in-Ok.ensures.ascii

pub range-requires-clause-end_boundary : goal.range-requires-clause-end_boundary
range-requires-clause-end_boundary c = ascii_end c.args.text.now c.args.at c.in-Ok.end c.utf8.text c.in-Ok.ensures.some c.in-Ok.ensures.ok.1 c.in-Ok.ensures.ascii
