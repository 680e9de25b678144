-- What printing the lines of a source leaves, answer by answer.
use Rattle.std.specs.Prelude.{◌≡◌, ℕ, ◌<◌, ◌≤◌, List, [], ◌++◌, length, Bool, true, false, Option, Result, Ok, Err}
use Rattle.file_pass.specs.Full.{lines_text}
use Rattle.outside.specs.World.{Told}
use Rattle.pipeline.specs.declared.Pipeline.{Pipeline}
use Rattle.stream_lines.specs.Limits.{most_taken}
use Rattle.stream_lines.specs.Prints.{PrintsAll, PrintsBefore, PrintsPart}
use Rattle.stream_lines.specs.StreamLines.{lines_of, open_lines, whole_lines}
use Rattle.stream_lines.specs.declared.fault.StreamFault.{StreamFault}
use Rattle.stream_lines.specs.declared.fault.StreamFault.TheVariants.{Source, Report, Long, Full, Memory}

-- The source gave these bytes, and they are all of it where its end was seen.
pub record Gives (given : List ℕ) (ended : Bool) (rest rest_after : List ℕ) : Type 0 where
  pub taken : rest ≡ given ++ rest_after
  pub all : ended ≡ true → rest_after ≡ []

module _ (pipeline : Pipeline) (observed : Option ℕ) (rest rest_after written written_after : Option (List ℕ)) where
  -- The end was seen, and the report grew by the whole lines.
  pub record PrintsWhole : Type 0 where
    pub given : List ℕ
    pub gives : Told (Gives given true) rest rest_after
    pub fewer : length given < most_taken
    pub prints : PrintsAll (whole_lines pipeline observed given) written written_after

  -- The end wasn't seen, since a read failed, and the report grew by the open lines.
  pub record PrintsOpen : Type 0 where
    pub given : List ℕ
    pub gives : Told (Gives given false) rest rest_after
    pub fewer : length given < most_taken
    pub prints : PrintsAll (open_lines pipeline observed given) written written_after

  -- All bytes were taken that may be, and the end wasn't seen; the report grew by the open lines.
  pub record TakesMost : Type 0 where
    pub given : List ℕ
    pub gives : Told (Gives given false) rest rest_after
    pub most : length given ≡ most_taken
    pub prints : PrintsAll (open_lines pipeline observed given) written written_after

  -- The lines would have got `size` bytes, more than may be printed.
  pub record FillsUp (size : ℕ) : Type 0 where
    pub given : List ℕ
    pub ended : Bool
    pub gives : Told (Gives given ended) rest rest_after
    pub few : length given ≤ most_taken
    pub prints : PrintsBefore (lines_of pipeline observed ended given) size written written_after

  -- The report failed, or memory ran out: the report grew by a part of the lines, from their front.
  pub record StopsWithin : Type 0 where
    pub given : List ℕ
    pub ended : Bool
    pub gives : Told (Gives given ended) rest rest_after
    pub few : length given ≤ most_taken
    pub prints : Told (PrintsPart (lines_text (lines_of pipeline observed ended given))) written written_after

  abbrev pub Streams : Result Unit StreamFault → Type 0
  Streams (Ok _) = PrintsWhole
  Streams (Err Source) = PrintsOpen
  Streams (Err Long) = TakesMost
  Streams (Err (Full size)) = FillsUp size
  Streams (Err Report) = StopsWithin
  Streams (Err Memory) = StopsWithin
