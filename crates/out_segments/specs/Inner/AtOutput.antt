-- A change of the output that Parts are, and what a crash leaves of them.
use Rattle.std.specs.Prelude.{◌≡◌, ◌≢◌, ◌⊎◌, ℕ, ◌+◌, ◌<◌, ◌≤◌, ◌^◌, max, List, [], length}
use Rattle.outside.specs.Image.{Image}
use Rattle.outside.specs.Images.{Images}
use Rattle.out_segments.specs.declared.parts.PartFile.{PartFile}
use Rattle.out_segments.specs.declared.parts.PartFile.TheVariants.{Settings, SlotA, SlotB, Part}
use Rattle.out_segments.specs.Joined.{output_of}

-- No Part is longer than this, or than it was.
abbrev pub KeepsLengths : ℕ → Image PartFile → Image PartFile → Type 0
KeepsLengths size old new = (number : ℕ) → length (new (Part number)) ≤ max size (length (old (Part number)))

-- The output changes so, in no Part before this one, and each other file stays. No Part becomes longer than a full one.
pub record AtOutput (size first : ℕ) (change : List ℕ → List ℕ → Type 0) (old new : Image PartFile) : Type 0 where
  pub here : change (output_of size old) (output_of size new)
  pub before : (number : ℕ) → number < first → new (Part number) ≡ old (Part number)
  pub settings : new Settings ≡ old Settings
  pub slot_a : new SlotA ≡ old SlotA
  pub slot_b : new SlotB ≡ old SlotB
  pub lengths : KeepsLengths size old new

abbrev pub IsKept : List ℕ → List ℕ → Type 0
IsKept old new = new ≡ old

-- Each image that a crash may leave is so.
pub record EachLeft {F D : Type 0} (images : Images F D) (disk : D) (holds : Image F → Type 0) : Type 0 where
  pub each : (image : Image F) → images.may_leave disk image → holds image

-- this Part isn't full
abbrev pub IsShort : ℕ → ℕ → Image PartFile → Type 0
IsShort size place image = length (image (Part place)) < size

abbrev pub IsEmpty : ℕ → Image PartFile → Type 0
IsEmpty place image = image (Part place) ≡ []

-- The Part may be written up to this place: it isn't filled so, or it is full already, or an empty one follows.
abbrev pub HasRoom : ℕ → ℕ → ℕ → Image PartFile → Type 0
HasRoom size place end image = (end < size) ⊎ ((size ≤ length (image (Part place))) ⊎ IsEmpty (place + 1) image)

-- Each Part behind this one is empty, up to and with the first that was empty.
abbrev pub EmptiesBehind : ℕ → Image PartFile → Image PartFile → Type 0
EmptiesBehind place old new =
    (number : ℕ) → place < number → number < 2 ^ 32 → ((between : ℕ) → place < between → between < number → old (Part between) ≢ []) → new (Part number) ≡ []

-- The Parts behind this one are empty up to the other, and stand as they were behind that.
pub record EmptiedTo (place last : ℕ) (old new : Image PartFile) : Type 0 where
  pub empty : (number : ℕ) → place < number → number ≤ last → new (Part number) ≡ []
  pub later : (number : ℕ) → last < number → new (Part number) ≡ old (Part number)
