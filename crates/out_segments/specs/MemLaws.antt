-- Laws of the images of files in memory.
use Rattle.std.specs.Prelude.{ℕ, ◌≤◌, List, [], ◌∷◌, ◌+◌, length, Bool, true, false, if◌then◌else◌, Option, None, Some, IfSome, refl}
use Rattle.std.proofs.Common.{inl, inr, le-add_right}
use Rattle.std.proofs.Math.Nat.{le_trans, le-suc, lt_irrefl}
use Rattle.out_segments.specs.declared.parts.PartFile.{PartFile}
use Rattle.outside.specs.Image.{Image}
use Rattle.outside.proofs.Tearing.{torn_idle}
use Rattle.out_segments.specs.declared.memory.log.Change.{Change}
use Rattle.out_segments.specs.declared.memory.log.Change.TheVariants.{Put, Write, Cut, Sync}
use Rattle.out_segments.specs.MemLog.{Log, changed, content, LeavesBy, Leaves, calls_of}
use Rattle.out_segments.specs.MemImages.{shown, LeavesImage, LeftSince}

leaves_taken : (change : Change) (could : List ℕ → Type 0) (shown : List ℕ) → could shown → LeavesBy change true could shown (changed change shown)
leaves_taken (Put bytes) could shown before = refl
leaves_taken (Write offset bytes) could shown before = (shown, before, inl refl)
leaves_taken (Cut size) could shown before = (shown, before, inr refl)
leaves_taken Sync could shown before = refl

leaves_begun : (change : Change) (could : List ℕ → Type 0) (shown : List ℕ) → could shown → LeavesBy change false could shown shown
leaves_begun (Put bytes) could shown before = before
leaves_begun (Write offset bytes) could shown before = (shown, before, inr (torn_idle offset (length bytes.items) shown))
leaves_begun (Cut size) could shown before = (shown, before, inl refl)
leaves_begun Sync could shown before = before

leaves_by : (change : Change) (taken : Bool) (could : List ℕ → Type 0) (shown : List ℕ) → could shown → LeavesBy change taken could shown (if taken then changed change shown else shown)
leaves_by change true could shown before = leaves_taken change could shown before
leaves_by change false could shown before = leaves_begun change could shown before

-- what reads give of a file may be left of it
pub leaves_content : (calls : Log) → Leaves calls (content calls)
leaves_content [] = refl
leaves_content (entry ∷ before) = leaves_by entry.change entry.taken (λ left. Leaves before left) (content before) (leaves_content before)

pub leaves_shown : {F : Type 0} (own : F → PartFile) (log : Log) → LeavesImage own log (shown own log)
leaves_shown own log file = leaves_content (calls_of (own file) log)

pub left_now : {F : Type 0} (own : F → PartFile) (log : Log) (from : ℕ) (image : Image F) → from ≤ length log → LeavesImage own log image → LeftSince own log from image
left_now own [] from image early left = (early, left)
left_now own (entry ∷ before) from image early left = inl (early, left)

-- a moment at which something might have been left isn't later than the newest
left_early : {F : Type 0} (own : F → PartFile) (log : Log) (from : ℕ) (image : Image F) → LeftSince own log from image → from ≤ length log
left_early own [] from image left = left.0
left_early own (entry ∷ before) from image (inl left) = left.0
left_early own (entry ∷ before) from image (inr past) = le_trans (left_early own before from image past) (le-suc (length before))

pub left_only_now : {F : Type 0} (own : F → PartFile) (log : Log) (image : Image F) → LeftSince own log (length log) image → LeavesImage own log image
left_only_now own [] image left = left.1
left_only_now own (entry ∷ before) image (inl left) = left.1
left_only_now own (entry ∷ before) image (inr past) = absurd (lt_irrefl (length before) (left_early own before (length (entry ∷ before)) image past))

-- with a part left, a number is within what it is with that part
pub within_part : (most : Option ℕ) (number part : ℕ) → IfSome most (λ m. number + part ≤ m) → IfSome most (λ m. number ≤ m)
within_part None number part within = within
within_part (Some m) number part within = le_trans (le-add_right number part) within
