-- An item against the next of the kept lines.
use Rattle.std.specs.Prelude.{ℕ, List, map, Option, None, Some}
use Rattle.auditor.specs.declared.gathered.Item.{Item}
use Rattle.kept_lines.specs.Made.{IsMade}
use Rattle.otlp_json.specs.IsOf64Bits.{IsTime}
use Rattle.otlp_json.specs.OutputLine.{output_line}
use Rattle.standing.specs.Closed.{Made}
use Rattle.standing.specs.Marks.{Mark}
use Rattle.standing.specs.Times.{IsNotBefore}

abbrev pub mark_line : Mark → List ℕ
mark_line mark = output_line mark.id mark.number mark.observed mark.entry

abbrev pub made_of : Item → Made
made_of item = record { entry = item.entry; stamped = item.stamped }

abbrev pub made_in : List Item → List Made
made_in items = map made_of items

-- the line is that of the item with this time, which isn't before the last one
pub record Continues (id number : ℕ) (made : Made) (line : List ℕ) (last time : Option ℕ) : Type 0 where
  pub is_made : IsMade id number made.stamped made.entry time line
  pub is_time : IsTime time
  pub not_before : IsNotBefore last time

-- where no time is answered the line is that of the item with none
abbrev pub IsNextTime : ℕ → ℕ → Made → List ℕ → Option ℕ → Option (Option ℕ) → Type 0
IsNextTime id number made line last None = (time : Option ℕ) → Continues id number made line last time → ⊥
IsNextTime id number made line last (Some time) = Continues id number made line last time

-- the last time, once there was this one
abbrev pub last_behind : Option ℕ → Option ℕ → Option ℕ
last_behind last None = last
last_behind last (Some time) = Some time
