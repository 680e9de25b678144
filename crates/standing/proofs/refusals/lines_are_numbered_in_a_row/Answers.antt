use Rattle.std.proofs.Common.{arith}
use Rattle.standing.proofs.RefusalLemmas.{no_line_missing, first_is_one}
use Rattle.standing.proofs.refusals.lines_are_numbered_in_a_row.Goals as goal

pub returns-clause-no_line_missing : goal.returns-clause-no_line_missing
returns-clause-no_line_missing c = no_line_missing

pub returns-clause-no_start_at_two : goal.returns-clause-no_start_at_two
returns-clause-no_start_at_two c = λ eras history rows next_id front back mark none two stand.
    let one = first_is_one eras history rows next_id front back mark none stand in
    omega (arith, one, two)
