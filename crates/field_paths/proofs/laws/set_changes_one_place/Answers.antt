use Rattle.field_paths.proofs.Places.{put_there, put_elsewhere}
use Rattle.field_paths.proofs.laws.set_changes_one_place.Goals as goal

pub returns-clause-there : goal.returns-clause-there
returns-clause-there c = put_there

pub returns-clause-elsewhere : goal.returns-clause-elsewhere
returns-clause-elsewhere c = put_elsewhere
