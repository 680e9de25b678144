use Rattle.std.proofs.Common.{arith}
use Rattle.standing.proofs.RefusalLemmas.{offset_within, owner_was_looked_at}
use Rattle.standing.proofs.refusals.rows_keep_to_what_was_seen.Goals as goal

pub returns-clause-no_offset_past_the_tokens : goal.returns-clause-no_offset_past_the_tokens
returns-clause-no_offset_past_the_tokens c = λ eras history row lines stands past. omega (arith, past, offset_within eras history row lines stands)

pub returns-clause-no_file_unseen : goal.returns-clause-no_file_unseen
returns-clause-no_file_unseen c = λ eras history row file unseen owner. unseen (owner_was_looked_at eras history row file owner)
