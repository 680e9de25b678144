-- What a report has of some lines.
use Rattle.std.specs.Prelude.{◌≡◌, ℕ, ◌≤◌, List, ◌++◌, length, take, Option, Result, Ok, Err}
use Rattle.file_pass.specs.Full.{Crosses, lines_text}
use Rattle.outside.specs.World.{Told}
use Rattle.standing.specs.Marks.{Mark}
use Rattle.stream_lines.specs.Limits.{most_printed}
use Rattle.stream_lines.specs.declared.fault.StreamFault.{StreamFault}
use Rattle.stream_lines.specs.declared.fault.StreamFault.TheVariants.{Source, Report, Long, Full, Memory}

-- it grew by the text
abbrev pub Prints : List ℕ → List ℕ → List ℕ → Type 0
Prints text old new = new ≡ old ++ text

-- or by a part from its front
abbrev pub PrintsPart : List ℕ → List ℕ → List ℕ → Type 0
PrintsPart text old new = (part : ℕ) × (new ≡ old ++ take part text)

-- They have no more bytes than may be printed, and the report grew by them.
pub record PrintsAll (lines : List Mark) (old new : Option (List ℕ)) : Type 0 where
  pub within : length (lines_text lines) ≤ most_printed
  pub told : Told (Prints (lines_text lines)) old new

-- With all lines up to one of these they would have `size` bytes, more than may be printed; the report grew by those before it.
pub record PrintsBefore (lines : List Mark) (size : ℕ) (old new : Option (List ℕ)) : Type 0 where
  pub crosses : Crosses most_printed 0 lines size
  pub told : Told (Prints (lines_text crosses.front)) old new

-- The lines were printed, or as far as the fault says. No read is made.
abbrev pub Tells : List Mark → Result Unit StreamFault → Option (List ℕ) → Option (List ℕ) → Type 0
Tells lines (Ok _) old new = PrintsAll lines old new
Tells lines (Err (Full size)) old new = PrintsBefore lines size old new
Tells lines (Err Report) old new = Told (PrintsPart (lines_text lines)) old new
Tells lines (Err Memory) old new = Told (PrintsPart (lines_text lines)) old new
Tells lines (Err Source) old new = ⊥
Tells lines (Err Long) old new = ⊥
