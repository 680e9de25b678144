use Rattle.container_parser.proofs.Streams.{fault_behind_is}
use Rattle.container_parser.proofs.cri.said_of.Goals as goal

pub returns-in-Err-content_of-clause-fault : goal.returns-in-Err-content_of-clause-fault
returns-in-Err-content_of-clause-fault c =
    fault_behind_is c.args.text.now c.in-Ok.parts.0.now c.in-Ok.parts.1.now c.in-Err-content_of.at c.in-Ok.ensures.stream c.in-Ok.ensures.ok
    c.in-Ok.ensures.behind c.in-Err-content_of.ensures.fault
