use Rattle.std.proofs.Common.{rules, ◌+◌, ◌∙◌, arith}
use Rattle.otlp_json.proofs.Blocks.{byte_done, run_done}
use Rattle.otlp_json.proofs.block.escape_run.Goals as goal

pub returns-then-run-eq16-clause-bytes : goal.returns-then-run-eq16-clause-bytes
returns-then-run-eq16-clause-bytes c =
    run_done c.args.text.now c.args.block.now c.args.taken c.args.made 16 c.requires.lanes (omega arith) (search rules)

pub returns-clause-bytes : goal.returns-clause-bytes
returns-clause-bytes c =
    let text = c.args.text.now in
    let run = c.plain_of_16-run.result in
    byte_done text _ _ (c.args.taken + run) (omega arith) c.escape_byte-made.ensures.bytes
    ∙ run_done text c.args.block.now c.args.taken c.args.made run c.requires.lanes (omega arith) c.plain_of_16-run.ensures.run
