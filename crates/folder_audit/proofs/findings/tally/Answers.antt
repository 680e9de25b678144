use Rattle.std.proofs.Common.{arith}
use Rattle.checkpoint_store.specs.Limits.{output_limit}
use Rattle.folder_audit.proofs.FindingLemmas.{lines_bounded}
use Rattle.folder_audit.proofs.findings.tally.Goals as goal

pub counted-absent-requires-clause-lines : goal.counted-absent-requires-clause-lines
counted-absent-requires-clause-lines c =
    let few = lines_bounded c.args.rows.now c.args.found.now output_limit c.requires.are.many (λ place row one at there. (c.requires.are.lines place row one at there, (c.requires.fit.1 place row at).lines)) in
    omega (arith, few, c.requires.few, c.requires.are.many)
