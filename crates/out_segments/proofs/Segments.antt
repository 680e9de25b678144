-- Changes of Parts, as changes of a disk.
use Rattle.std.proofs.Common.{◌≡◌, ◌≢◌, ℕ, Some, None, List, inl, inr, refl, sym, subst}
use Rattle.outside.specs.Crash.{Passes}
use Rattle.outside.specs.Image.{Image, AtFile}
use Rattle.outside.specs.Images.{Images}
use Rattle.outside.specs.declared.disk.DiskFile.{DiskFile}
use Rattle.outside.specs.declared.disk.DiskFile.TheVariants as disk
use Rattle.out_segments.specs.declared.parts.PartFile.{PartFile}
use Rattle.out_segments.specs.declared.parts.PartFile.TheVariants.{Settings, SlotA, SlotB, Part}
use Rattle.out_segments.specs.declared.segmented.Segmented.{Segmented}
use Rattle.out_segments.specs.Joined.{image_of, whole_file}
use Rattle.out_segments.specs.SegmentedMeaning.{parts_of, size_of, segmented_images}
use Rattle.out_segments.proofs.Outputs.{output_alike, at_file}
use Rattle.out_segments.specs.Inner.AtOutput.{AtOutput}

pub passes_joined : {P : Type 0} {g : _} {images : Images PartFile P} {change : Image PartFile → Image PartFile → Type 0} {whole : Image DiskFile → Image DiskFile → Type 0} (old new : Segmented P g) → size_of new ≡ size_of old → Passes images change (parts_of old) (parts_of new) → ((x y : Image PartFile) → change x y → whole (image_of (size_of old) x) (image_of (size_of old) y)) → Passes (segmented_images images) whole old new
passes_joined {images = images} {change = change} {whole = whole} old new sized passes step =
    let joins : (left : Image PartFile) (first : Image PartFile) (image : Image DiskFile) → image ≡ image_of (size_of new) left → change first left → whole (image_of (size_of old) first) image = λ left first image is changed.
    let P : ℕ → Type 0 = λ size. whole (image_of (size_of old) first) (image_of size left) in
    let Q : Image DiskFile → Type 0 = λ i. whole (image_of (size_of old) first) i in
    subst Q (sym is) (subst P (sym sized) (step first left changed)) in
    record {
      later = passes.later;
      now_left = λ image left.
          let past = passes.now_left left.0 left.1 in
          (image_of (size_of old) past.0, (past.0, past.1, refl), joins left.0 past.0 image left.2 past.2);
      since = λ from image early left.
          let R : ℕ → Type 0 = λ size. image ≡ image_of size left.0 in
          elim (passes.since from left.0 early left.1) [
            | inl past ↦ inl (left.0, past, subst R sized left.2)
            | inr past ↦ inr (image_of (size_of old) past.0, (past.0, past.1, refl), joins left.0 past.0 image left.2 past.2)
          ];
      keeps = λ from image early left. (let R : ℕ → Type 0 = λ size. image ≡ image_of size left.0 in (left.0, passes.keeps from left.0 early left.1, subst R (sym sized) left.2));
    }

-- a change of a file that isn't output
module _ (size : ℕ) {change : List ℕ → List ℕ → Type 0} (old new : Image PartFile) where
  settings_at : AtFile Settings change old new → AtFile disk.Settings change (image_of size old) (image_of size new)
  settings_at at = record { here = at.here; others = others_of }
    where
      others_of : (other : DiskFile) → other ≢ disk.Settings → image_of size new other ≡ image_of size old other
      others_of disk.Settings apart = absurd (apart refl)
      others_of disk.Output apart = output_alike size old new (λ number _. at.others (Part number) (λ e. cc))
      others_of disk.SlotA apart = at.others SlotA (λ e. cc)
      others_of disk.SlotB apart = at.others SlotB (λ e. cc)

  slot_a_at : AtFile SlotA change old new → AtFile disk.SlotA change (image_of size old) (image_of size new)
  slot_a_at at = record { here = at.here; others = others_of }
    where
      others_of : (other : DiskFile) → other ≢ disk.SlotA → image_of size new other ≡ image_of size old other
      others_of disk.Settings apart = at.others Settings (λ e. cc)
      others_of disk.Output apart = output_alike size old new (λ number _. at.others (Part number) (λ e. cc))
      others_of disk.SlotA apart = absurd (apart refl)
      others_of disk.SlotB apart = at.others SlotB (λ e. cc)

  slot_b_at : AtFile SlotB change old new → AtFile disk.SlotB change (image_of size old) (image_of size new)
  slot_b_at at = record { here = at.here; others = others_of }
    where
      others_of : (other : DiskFile) → other ≢ disk.SlotB → image_of size new other ≡ image_of size old other
      others_of disk.Settings apart = at.others Settings (λ e. cc)
      others_of disk.Output apart = output_alike size old new (λ number _. at.others (Part number) (λ e. cc))
      others_of disk.SlotA apart = at.others SlotA (λ e. cc)
      others_of disk.SlotB apart = absurd (apart refl)

  pub whole_at : (file : DiskFile) (own : PartFile) → whole_file file ≡ Some own → AtFile own change old new → AtFile file change (image_of size old) (image_of size new)
  whole_at disk.Settings own is at = settings_at (let Q : PartFile → Type 0 = λ f. AtFile f change old new in let e : own ≡ Settings = cc in subst Q e at)
  whole_at disk.Output own is at = absurd (cc)
  whole_at disk.SlotA own is at = slot_a_at (let Q : PartFile → Type 0 = λ f. AtFile f change old new in let e : own ≡ SlotA = cc in subst Q e at)
  whole_at disk.SlotB own is at = slot_b_at (let Q : PartFile → Type 0 = λ f. AtFile f change old new in let e : own ≡ SlotB = cc in subst Q e at)

-- a change of the output
pub output_file : (file : DiskFile) → whole_file file ≡ None → file ≡ disk.Output
output_file disk.Settings is = absurd (cc)
output_file disk.Output is = refl
output_file disk.SlotA is = absurd (cc)
output_file disk.SlotB is = absurd (cc)

pub output_at : (size : ℕ) {first : ℕ} {change : List ℕ → List ℕ → Type 0} (old new : Image PartFile) (file : DiskFile) → whole_file file ≡ None → AtOutput size first change old new → AtFile file change (image_of size old) (image_of size new)
output_at size {first} {change} old new file is at = subst (λ (f : DiskFile). AtFile f change (image_of size old) (image_of size new)) (sym (output_file file is)) (at_file at)
