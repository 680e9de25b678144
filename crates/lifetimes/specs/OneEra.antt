-- Settings that were never changed.
use Rattle.std.specs.Prelude.{[]}
use Rattle.outside.specs.Image.{Image}
use Rattle.outside.specs.declared.disk.DiskFile.{DiskFile}
use Rattle.outside.specs.declared.disk.DiskFile.TheVariants.{Output}
use Rattle.poll_core.specs.Found.{IsFound}
use Rattle.standing.specs.Eras.{Eras}
use Rattle.standing.specs.Rules.{Rules}
use Rattle.standing.specs.Standing.{Found, Sound}

abbrev pub one_era : Rules → Eras
one_era rules = record { first = rules; later = [] }

-- The image is sound by these settings alone, whatever was read.
pub record IsSoundBy (rules : Rules) (image : Image DiskFile) : Type 0 where
  pub there : Found
  pub found : IsFound image there
  pub sound : Sound (one_era rules) there (image Output)
