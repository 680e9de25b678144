use Rattle.std.proofs.Common.{refl, inl}
use Rattle.glob_match.proofs.Folders.{folder_listed}
use Rattle.glob_match.proofs.laws.folders_on_a_match_are_listed.Goals as goal

pub returns-clause-root : goal.returns-clause-root
returns-clause-root c = λ pattern. inl refl

pub returns-clause-leading : goal.returns-clause-leading
returns-clause-leading c = folder_listed
