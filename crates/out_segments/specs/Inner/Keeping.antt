-- What calls on Parts change, now and after a crash, and what they leave.
use Rattle.std.specs.Prelude.{◌≡◌, IsTrue}
use Rattle.outside.specs.Crash.{Passes}
use Rattle.outside.specs.Image.{Image, Same}
use Rattle.out_segments.specs.PartsMeaning.{PartsMeaning}
use Rattle.out_segments.specs.declared.parts.PartFile.{PartFile}

-- what no call on the output changes
pub record KeepsTerms {P : Type 0} (meaning : PartsMeaning P) (old new : P) : Type 0 where
  pub tells : meaning.images.tells new ≡ meaning.images.tells old
  pub bound : meaning.bound new ≡ meaning.bound old
  pub written : meaning.written new ≡ meaning.written old

-- The Parts were only read: their files stand, now and after a crash.
pub record OnlyRead {P : Type 0} (meaning : PartsMeaning P) (old new : P) : Type 0 where
  pub seen : meaning.images.seen new ≡ meaning.images.seen old
  pub crash : Passes meaning.images Same old new
  pub terms : KeepsTerms meaning old new

-- The files changed as this says, as reads give them and after a crash.
pub record Changes {P : Type 0} (meaning : PartsMeaning P) (change : Image PartFile → Image PartFile → Type 0) (old new : P) : Type 0 where
  pub begun : IsTrue (meaning.images.tells old) → change (meaning.images.seen old) (meaning.images.seen new)
  pub crash : Passes meaning.images change old new
  pub terms : KeepsTerms meaning old new
