-- The images of files in memory, from their log: of the Parts themselves, or of files that are some of them. The newest entry
-- comes first, and a moment is a length of the log.
use Rattle.std.specs.Prelude.{◌⊎◌, ℕ, ◌≤◌, [], ◌∷◌, length, true}
use Rattle.outside.specs.Image.{Image}
use Rattle.outside.specs.Images.{Images}
use Rattle.out_segments.specs.declared.parts.PartFile.{PartFile}
use Rattle.out_segments.specs.MemLog.{Log, content, Leaves, calls_of}

-- what reads give
abbrev pub shown : {F : Type 0} → (F → PartFile) → Log → Image F
shown own log file = content (calls_of (own file) log)

-- The files are independent: each may be left as its own calls may leave it.
abbrev pub LeavesImage : {F : Type 0} → (F → PartFile) → Log → Image F → Type 0
LeavesImage {F} own log image = (file : F) → Leaves (calls_of (own file) log) (image file)

-- the image may be left at the newest moment, or might have been at one before it, none earlier than `from`
abbrev pub LeftSince : {F : Type 0} → (F → PartFile) → Log → ℕ → Image F → Type 0
LeftSince own [] from image = (from ≤ 0) × LeavesImage own [] image
LeftSince own (entry ∷ before) from image = ((from ≤ length (entry ∷ before)) × LeavesImage own (entry ∷ before) image) ⊎ LeftSince own before from image

-- what a log tells
abbrev pub log_images : {F : Type 0} → (F → PartFile) → Images F Log
log_images own = record {
  tells = λ _. true;
  seen = shown own;
  may_leave = LeavesImage own;
  moment = λ log. length log;
  left_since = LeftSince own;
}

-- Parts as the files that they are
abbrev pub itself : PartFile → PartFile
itself file = file
