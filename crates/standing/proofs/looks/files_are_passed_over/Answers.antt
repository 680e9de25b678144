use Rattle.standing.proofs.FindLemmas.{is_skipped, is_nothing, is_compressed_file}
use Rattle.standing.proofs.looks.files_are_passed_over.Goals as goal

pub returns-clause-skipped : goal.returns-clause-skipped
returns-clause-skipped c = is_skipped

pub returns-clause-empty : goal.returns-clause-empty
returns-clause-empty c = is_nothing

pub returns-clause-compressed : goal.returns-clause-compressed
returns-clause-compressed c = is_compressed_file
