use Rattle.glob_match.proofs.PlainGlobs.{plain_matches}
use Rattle.glob_match.proofs.laws.plain_glob_matches_itself.Goals as goal

pub returns : goal.returns
returns c = plain_matches
