-- How long Parts are, over several calls.
use Rattle.std.proofs.Common.{◌≡◌, ◌≢◌, ℕ, ◌≤◌, List, length, Some, sym, ◌∙◌, ap, subst, arith, inl, inr}
use Rattle.outside.specs.Crash.{Passes}
use Rattle.outside.specs.Image.{Image, AtFile, Same}
use Rattle.outside.specs.Images.{Images}
use Rattle.outside.specs.declared.disk.DiskFile.{DiskFile}
use Rattle.outside.specs.declared.disk.DiskFile.TheVariants as disk
use Rattle.outside.proofs.Passing.{passes_weaker}
use Rattle.out_segments.specs.declared.parts.PartFile.{PartFile}
use Rattle.out_segments.specs.declared.parts.PartFile.TheVariants.{Settings, SlotA, SlotB, Part}
use Rattle.out_segments.specs.declared.segmented.Segmented.{Segmented}
use Rattle.out_segments.specs.Inner.AtOutput.{AtOutput, KeepsLengths}
use Rattle.out_segments.specs.Joined.{whole_file}
use Rattle.out_segments.specs.Kept.{KeptSince, IsSince}
use Rattle.out_segments.specs.SegmentedMeaning.{parts_of, size_of, segmented_images}
use Rattle.out_segments.specs.Segments.{Segments, segments, segments_images}

-- ---- one call

same_lengths : (size : ℕ) (old new : Image PartFile) → new ≡ old → KeepsLengths size old new
same_lengths size old new same number = omega (arith, ap (λ (i : Image PartFile). length (i (Part number))) same)

own_apart : (file : DiskFile) (own : PartFile) → whole_file file ≡ Some own → (number : ℕ) → Part number ≢ own
own_apart disk.Settings own is number = λ e. cc
own_apart disk.Output own is number = absurd (cc)
own_apart disk.SlotA own is number = λ e. cc
own_apart disk.SlotB own is number = λ e. cc

-- a change of a file that isn't output
whole_lengths : (size : ℕ) (file : DiskFile) (own : PartFile) {change : List ℕ → List ℕ → Type 0} (old new : Image PartFile) → whole_file file ≡ Some own → AtFile own change old new → KeepsLengths size old new
whole_lengths size file own old new is at number = omega (arith, ap length (at.others (Part number) (own_apart file own is number)))

module _ {P : Type 0} {images : Images PartFile P} {old new : P} (size : ℕ) where
  pub lengths_read : Passes images Same old new → Passes images (KeepsLengths size) old new
  lengths_read passes = passes_weaker passes (λ x y same. same_lengths size x y same)

  pub lengths_output : {first : ℕ} {change : List ℕ → List ℕ → Type 0} → Passes images (AtOutput size first change) old new → Passes images (KeepsLengths size) old new
  lengths_output passes = passes_weaker passes (λ x y at. at.lengths)

  pub lengths_whole : (file : DiskFile) (own : PartFile) {change : List ℕ → List ℕ → Type 0} → whole_file file ≡ Some own → Passes images (AtFile own change) old new → Passes images (KeepsLengths size) old new
  lengths_whole file own is passes = passes_weaker passes (λ x y at. whole_lengths size file own x y is at)

-- ---- since a moment

module _ {P : Type 0} {images : Images PartFile P} {could_leave : Image PartFile → Type 0} {moment size : ℕ} where
  pub kept_start : {parts : P} → moment ≡ images.moment parts → ((image : Image PartFile) → images.left_since parts (images.moment parts) image → images.may_leave parts image) → ((image : Image PartFile) → images.may_leave parts image → could_leave image) → KeptSince images could_leave moment size parts
  kept_start {parts} now only could = record {
    later = omega (arith, now);
    lengths = λ number most within fits image left.
        let there : images.left_since parts (images.moment parts) image = subst (λ (m : ℕ). images.left_since parts m image) now left in
        fits image (could image (only image there));
  }

  pub kept_more : {old new : P} → ((image : Image PartFile) → moment ≤ images.moment old → images.may_leave old image → images.left_since old moment image) → KeptSince images could_leave moment size old → Passes images (KeepsLengths size) old new → KeptSince images could_leave moment size new
  kept_more counts kept passes = record {
    later = omega (arith, kept.later, passes.later);
    lengths = λ number most within fits image left. elim (passes.since moment image kept.later left) [
      | inl past ↦ kept.lengths number most within fits image past
      | inr past ↦ omega (arith, within, past.2 number, kept.lengths number most within fits past.0 (counts past.0 kept.later past.1))
    ];
  }

module _ {P : Type 0} {g : _} (images : Images PartFile P) {could_leave : Image PartFile → Type 0} {moment wanted : ℕ} (old new : Segmented P g) where
  pub since_more : ((parts : P) (from : ℕ) (image : Image PartFile) → from ≤ images.moment parts → images.may_leave parts image → images.left_since parts from image) → size_of new ≡ size_of old → Passes images (KeepsLengths (size_of old)) (parts_of old) (parts_of new) → IsSince images could_leave moment wanted (size_of old) (parts_of old) → IsSince images could_leave moment wanted (size_of new) (parts_of new)
  since_more counts sized passes was = record {
    sized = sized ∙ was.sized;
    kept = subst (λ (n : ℕ). KeptSince images could_leave moment n (parts_of new)) (sym sized) (kept_more (λ image early left. counts (parts_of old) moment image early left) was.kept passes);
  }

pub whole_again : {P : Type 0} (parts given : P) (size wanted : ℕ) (files : Segments P) → given ≡ parts → size ≡ wanted → segments parts size ≡ files → segments given wanted ≡ files
whole_again {P} parts given size wanted files same sized is = ap (λ (p : P). segments p wanted) same ∙ ap (λ (n : ℕ). segments parts n) (sym sized) ∙ is

-- the files over Parts, seen as Parts
pub passes_segments : {P : Type 0} {g : _} (images : Images PartFile P) {change : Image DiskFile → Image DiskFile → Type 0} (old new : Segmented P g) → Passes (segmented_images images) change old new → Passes (segments_images images) change (segments (parts_of old) (size_of old)) (segments (parts_of new) (size_of new))
passes_segments images old new passes = record {
  later = passes.later;
  now_left = λ image left. passes.now_left image left;
  since = λ from image early left. passes.since from image early left;
  keeps = λ from image early left. passes.keeps from image early left;
}
