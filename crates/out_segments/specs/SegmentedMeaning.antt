-- What a disk means whose output is in Parts.
use Rattle.std.specs.Prelude.{◌≡◌, ℕ, None}
use Rattle.outside.specs.DiskMeaning.{DiskMeaning}
use Rattle.outside.specs.Image.{Image}
use Rattle.outside.specs.Images.{Images}
use Rattle.outside.specs.declared.disk.DiskFile.{DiskFile}
use Rattle.out_segments.specs.declared.parts.PartFile.{PartFile}
use Rattle.out_segments.specs.declared.segmented.Segmented.{Segmented}
use Rattle.out_segments.specs.Joined.{image_of}
use Rattle.out_segments.specs.PartsMeaning.{PartsMeaning}

abbrev pub parts_of : {P : Type 0} {g : _} → Segmented P g → P
parts_of disk = disk.parts

-- how many bytes a full Part has
abbrev pub size_of : {P : Type 0} {g : _} → Segmented P g → ℕ
size_of disk = disk.size

-- A crash leaves what it leaves of the Parts, joined.
abbrev pub segmented_images : {P : Type 0} {g : _} → Images PartFile P → Images DiskFile (Segmented P g)
segmented_images images = record {
  tells = λ disk. images.tells (parts_of disk);
  seen = λ disk. image_of (size_of disk) (images.seen (parts_of disk));
  may_leave = λ disk image. (left : Image PartFile) × images.may_leave (parts_of disk) left × (image ≡ image_of (size_of disk) left);
  moment = λ disk. images.moment (parts_of disk);
  left_since = λ disk from image. (left : Image PartFile) × images.left_since (parts_of disk) from left × (image ≡ image_of (size_of disk) left);
}

-- A call on the output is several on the Parts, and one that fails may come after some that didn't. So the calls that
-- succeeded aren't told.
abbrev pub segmented_meaning : {P : Type 0} {g : _} → PartsMeaning P → DiskMeaning (Segmented P g)
segmented_meaning meaning = record {
  images = segmented_images meaning.images;
  faults = λ disk. meaning.faults (parts_of disk);
  bound = λ disk. meaning.bound (parts_of disk);
  done = λ _. None;
  limit = λ _. None;
  written = λ disk. meaning.written (parts_of disk);
}
