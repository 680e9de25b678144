-- What a line was made of.
use Rattle.std.specs.Prelude.{◌≡◌, ℕ, Bool, List, Option, is_some}
use Rattle.entry_model.specs.LogRecord.{LogRecord}
use Rattle.otlp_json.specs.IsOf64Bits.{IsTime}
use Rattle.otlp_json.specs.OutputLine.{output_line}

-- the line is that of the entry with this time, and it has a time exactly where it is to have one
pub record IsMade (id number : ℕ) (stamped : Bool) (entry : LogRecord) (time : Option ℕ) (line : List ℕ) : Type 0 where
  pub is : line ≡ output_line id number time entry
  pub has_time : is_some time ≡ stamped

-- the line is that of the entry with no such time
abbrev pub IsNotMade : ℕ → ℕ → Bool → LogRecord → List ℕ → Type 0
IsNotMade id number stamped entry line = (time : Option ℕ) → IsTime time → IsMade id number stamped entry time line → ⊥
