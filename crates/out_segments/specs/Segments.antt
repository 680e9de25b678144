-- An output in Parts, whatever is known of them.
use Rattle.std.specs.Prelude.{◌≡◌, ◌≤◌, ℕ, None, refl, IsTrue}
use Rattle.outside.specs.DiskMeaning.{DiskMeaning}
use Rattle.outside.specs.Image.{Image}
use Rattle.outside.specs.Images.{Images}
use Rattle.outside.specs.declared.disk.DiskFile.{DiskFile}
use Rattle.out_segments.specs.declared.parts.PartFile.{PartFile}
use Rattle.out_segments.specs.Joined.{image_of}
use Rattle.out_segments.specs.PartsMeaning.{PartsMeaning}

-- Parts, and how many bytes a full one has
pub record Segments (P : Type 0) : Type 0 where
  pub parts : P
  pub size : ℕ

abbrev pub segments : {P : Type 0} → P → ℕ → Segments P
segments parts size = record { parts = parts; size = size }

-- A crash leaves what it leaves of the Parts, joined.
abbrev pub segments_images : {P : Type 0} → Images PartFile P → Images DiskFile (Segments P)
segments_images images = record {
  tells = λ disk. images.tells disk.parts;
  seen = λ disk. image_of disk.size (images.seen disk.parts);
  may_leave = λ disk image. (left : Image PartFile) × images.may_leave disk.parts left × (image ≡ image_of disk.size left);
  moment = λ disk. images.moment disk.parts;
  left_since = λ disk from image. (left : Image PartFile) × images.left_since disk.parts from left × (image ≡ image_of disk.size left);
}

-- How many calls succeeded isn't told, since one on the output is several on the Parts.
abbrev pub segments_meaning : {P : Type 0} → PartsMeaning P → DiskMeaning (Segments P)
segments_meaning meaning = record {
  images = segments_images meaning.images;
  faults = λ disk. meaning.faults disk.parts;
  bound = λ disk. meaning.bound disk.parts;
  done = λ _. None;
  limit = λ _. None;
  written = λ disk. meaning.written disk.parts;
}

module _ {P : Type 0} (meaning : PartsMeaning P) where
  pub told_segments : ((parts : P) (image : Image PartFile) → meaning.images.may_leave parts image → IsTrue (meaning.images.tells parts)) → (disk : Segments P) (image : Image DiskFile) → (segments_images meaning.images).may_leave disk image → IsTrue ((segments_images meaning.images).tells disk)
  told_segments told disk image left = told disk.parts left.0 left.1

  pub shown_segments : ((parts : P) → IsTrue (meaning.images.tells parts) → meaning.images.may_leave parts (meaning.images.seen parts)) → (disk : Segments P) → IsTrue ((segments_images meaning.images).tells disk) → (segments_images meaning.images).may_leave disk ((segments_images meaning.images).seen disk)
  shown_segments shown disk told = (meaning.images.seen disk.parts, shown disk.parts told, refl)

  pub now_segments : ((parts : P) (from : ℕ) (image : Image PartFile) → from ≤ meaning.images.moment parts → meaning.images.may_leave parts image → meaning.images.left_since parts from image) → (disk : Segments P) (from : ℕ) (image : Image DiskFile) → from ≤ (segments_images meaning.images).moment disk → (segments_images meaning.images).may_leave disk image → (segments_images meaning.images).left_since disk from image
  now_segments counts disk from image early left = (left.0, counts disk.parts from left.0 early left.1, left.2)

  pub only_segments : ((parts : P) (image : Image PartFile) → meaning.images.left_since parts (meaning.images.moment parts) image → meaning.images.may_leave parts image) → (disk : Segments P) (image : Image DiskFile) → (segments_images meaning.images).left_since disk ((segments_images meaning.images).moment disk) image → (segments_images meaning.images).may_leave disk image
  only_segments only disk image left = (left.0, only disk.parts left.0 left.1, left.2)
