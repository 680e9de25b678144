-- Parts that a sync and a look at their lengths found whole.
use Rattle.std.specs.Prelude.{◌<◌, ◌≤◌, ℕ, length, IsTrue}
use Rattle.outside.specs.Crash.{IsDurable}
use Rattle.outside.specs.Images.{Images}
use Rattle.out_segments.specs.declared.parts.PartFile.{PartFile}
use Rattle.out_segments.specs.declared.parts.PartFile.TheVariants.{Part}

-- Each Part before this one is full, and a crash leaves of it what reads give.
abbrev pub AreSettled : {P : Type 0} → Images PartFile P → ℕ → ℕ → P → Type 0
AreSettled images size before parts =
    (number : ℕ) → number < before → IsDurable images (Part number) parts × (IsTrue (images.tells parts) → size ≤ length (images.seen parts (Part number)))
