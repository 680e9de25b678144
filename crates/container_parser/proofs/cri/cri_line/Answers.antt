use Rattle.container_parser.proofs.CriLaws.{time_missing, line_ends, said_wrong}
use Rattle.container_parser.proofs.cri.cri_line.Goals as goal

pub returns-in-Err-clause-fault : goal.returns-in-Err-clause-fault
returns-in-Err-clause-fault c =
    time_missing c.args.line.now c.at_space.result.0.now c.in-Err.fault c.place_of.result c.at_space.ensures.word c.in-Err.ensures c.place_of.ensures

pub returns-then-word-line-clause-fault : goal.returns-then-word-line-clause-fault
returns-then-word-line-clause-fault c = line_ends c.args.line.now c.at_space.result.0.now c.in-Ok.timestamp c.at_space.ensures.word c.in-Ok.ensures c.if-word-line.true

pub returns-in-Err-said_of-clause-fault : goal.returns-in-Err-said_of-clause-fault
returns-in-Err-said_of-clause-fault c =
    said_wrong c.args.line.now c.at_space.result.0.now c.at_space.result.1.now c.in-Ok.timestamp c.in-Err-said_of.at c.at_space.ensures.word
    c.at_space.ensures.behind c.in-Ok.ensures c.if-word-line.false c.in-Err-said_of.ensures.fault
