use Rattle.outside.proofs.Naming.{named_path, file_no_folder, one_name}
use Rattle.outside.proofs.laws.names_are_apart.Goals as goal

pub returns-clause-paths : goal.returns-clause-paths
returns-clause-paths c = named_path

pub returns-clause-folders : goal.returns-clause-folders
returns-clause-folders c = file_no_folder

pub returns-clause-one : goal.returns-clause-one
returns-clause-one c = one_name
