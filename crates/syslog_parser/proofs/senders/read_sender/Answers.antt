use Rattle.syslog_parser.proofs.ReadingSenders.{tag_fault, behind_tag_fault}
use Rattle.syslog_parser.proofs.senders.read_sender.Goals as goal

pub returns-in-Err-read_tag-clause-fault : goal.returns-in-Err-read_tag-clause-fault
returns-in-Err-read_tag-clause-fault c =
    tag_fault c.args.text.now c.in-Ok.read.0.now c.in-Ok.read.1.now c.in-Ok.ensures.ok c.in-Err-read_tag.left c.in-Err-read_tag.ensures.fault

pub returns-in-Err-read_process-clause-fault : goal.returns-in-Err-read_process-clause-fault
returns-in-Err-read_process-clause-fault c =
    behind_tag_fault c.args.text.now c.in-Ok.read.0.now c.in-Ok.read.1.now c.in-Ok.ensures.ok c.in-Ok-read_tag.read.0.now c.in-Ok-read_tag.read.1.now c.in-Ok-read_tag.ensures.ok
    c.in-Err-read_process.left c.in-Err-read_process.ensures.fault
