-- Laws of the images that Parts leave, joined.
use Rattle.std.specs.Prelude.{◌≤◌, ℕ, refl, IsTrue}
use Rattle.outside.specs.Image.{Image}
use Rattle.outside.specs.declared.disk.DiskFile.{DiskFile}
use Rattle.out_segments.specs.declared.parts.PartFile.{PartFile}
use Rattle.out_segments.specs.declared.segmented.Segmented.{Segmented}
use Rattle.out_segments.specs.PartsMeaning.{PartsMeaning}
use Rattle.out_segments.specs.SegmentedMeaning.{parts_of, segmented_images}

module _ {P : Type 0} {g : _} (meaning : PartsMeaning P) where
  pub told_joined : ((parts : P) (image : Image PartFile) → meaning.images.may_leave parts image → IsTrue (meaning.images.tells parts)) → (disk : Segmented P g) (image : Image DiskFile) → (segmented_images meaning.images).may_leave disk image → IsTrue ((segmented_images meaning.images).tells disk)
  told_joined told disk image left = told (parts_of disk) left.0 left.1

  pub shown_joined : ((parts : P) → IsTrue (meaning.images.tells parts) → meaning.images.may_leave parts (meaning.images.seen parts)) → (disk : Segmented P g) → IsTrue ((segmented_images meaning.images).tells disk) → (segmented_images meaning.images).may_leave disk ((segmented_images meaning.images).seen disk)
  shown_joined shown disk told = (meaning.images.seen (parts_of disk), shown (parts_of disk) told, refl)

  pub now_joined : ((parts : P) (from : ℕ) (image : Image PartFile) → from ≤ meaning.images.moment parts → meaning.images.may_leave parts image → meaning.images.left_since parts from image) → (disk : Segmented P g) (from : ℕ) (image : Image DiskFile) → from ≤ (segmented_images meaning.images).moment disk → (segmented_images meaning.images).may_leave disk image → (segmented_images meaning.images).left_since disk from image
  now_joined counts disk from image early left = (left.0, counts (parts_of disk) from left.0 early left.1, left.2)

  pub only_joined : ((parts : P) (image : Image PartFile) → meaning.images.left_since parts (meaning.images.moment parts) image → meaning.images.may_leave parts image) → (disk : Segmented P g) (image : Image DiskFile) → (segmented_images meaning.images).left_since disk ((segmented_images meaning.images).moment disk) image → (segmented_images meaning.images).may_leave disk image
  only_joined only disk image left = (left.0, only (parts_of disk) left.0 left.1, left.2)
