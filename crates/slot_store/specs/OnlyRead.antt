-- What calls leave of a disk besides its files.
use Rattle.std.specs.Prelude.{◌≡◌}
use Rattle.outside.specs.Crash.{Passes}
use Rattle.outside.specs.DiskMeaning.{DiskMeaning}
use Rattle.outside.specs.Image.{Same}

-- The disk was only read: its files stand, now and after a crash, and no write, cut or sync was counted.
pub record OnlyRead {D : Type 0} (meaning : DiskMeaning D) (old new : D) : Type 0 where
  pub seen : meaning.images.seen new ≡ meaning.images.seen old
  pub tells : meaning.images.tells new ≡ meaning.images.tells old
  pub crash : Passes meaning.images Same old new
  pub bound : meaning.bound new ≡ meaning.bound old
  pub done : meaning.done new ≡ meaning.done old
  pub limit : meaning.limit new ≡ meaning.limit old
  pub written : meaning.written new ≡ meaning.written old

-- what no call changes
pub record KeepsTerms {D : Type 0} (meaning : DiskMeaning D) (old new : D) : Type 0 where
  pub tells : meaning.images.tells new ≡ meaning.images.tells old
  pub bound : meaning.bound new ≡ meaning.bound old
  pub limit : meaning.limit new ≡ meaning.limit old
