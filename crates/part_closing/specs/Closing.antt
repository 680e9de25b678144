-- Files whose last parts were closed.
use Rattle.std.specs.Prelude.{◌≡◌, ℕ, List, flat_map, length, map}
use Rattle.file_pass.specs.Full.{lines_text}
use Rattle.file_tracker.specs.declared.row.Row.{Row}
use Rattle.pipeline.specs.AsRules.{rules_of}
use Rattle.part_closing.specs.declared.closing.Closer.{Closer}
use Rattle.part_closing.specs.declared.closing.Closing.{Closing}
use Rattle.standing.specs.Adopted.{lines_closed, row_adopted}
use Rattle.standing.specs.Marks.{Mark}
use Rattle.standing.specs.Rules.{Rules}

-- the rules of its operators, whatever the text of their settings is
abbrev pub rules_by : Closer → List ℕ → Rules
rules_by closer text = rules_of text closer.pipeline.now

-- the lines of what was held back of these files
abbrev pub lines_of_all : Closer → List ℕ → List Row → List Mark
lines_of_all closer text rows = flat_map (lines_closed (rules_by closer text) closer.observed) rows

-- The last part of each of these files has ended, and these are the lines of what was held back.
pub record HasClosed (closer : Closer) (rows : List Row) (closing : Closing) : Type 0 where
  pub rows_are : (text : List ℕ) (next : Rules) → next.fresh ≡ closer.fresh.now → closing.rows.items ≡ map (row_adopted (rules_by closer text) next) rows
  pub lines_are : (text : List ℕ) → closing.lines.items ≡ lines_text (lines_of_all closer text rows)
  pub count_is : (text : List ℕ) → closing.count ≡ length (lines_of_all closer text rows)
