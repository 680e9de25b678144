-- What noting in its row how far a file was read makes of it.
use Rattle.std.specs.Prelude.{◌≡◌, ◌≤◌, false, true}
use Rattle.file_tracker.specs.Places.{HasGone, with_progress}
use Rattle.file_tracker.specs.declared.row.Row.{Row}
use Rattle.op_kinds.specs.StateTexts.{state_text}
use Rattle.standing.specs.Rules.{Rules}
use Rattle.file_pass.specs.Grown.{HasGrown, LosesNothing}
use Rattle.file_pass.specs.declared.feeding.Feeding.{Feeding}

abbrev pub noted_row : Feeding → Row → Row
noted_row feeding row = with_progress feeding.offset feeding.state.records feeding.state.lines (state_text feeding.state.states.items) row

-- Its numbers don't fall and nothing is lost; it has grown where something was flushed, and it stays where nothing was and no byte
-- more was read.
pub record MayBeNoted (rules : Rules) (feeding : Feeding) (row : Row) : Type 0 where
  pub rises : HasGone row feeding.offset feeding.state.records feeding.state.lines
  pub held : LosesNothing rules row (noted_row feeding row)
  pub grown : feeding.flushed ≡ true → HasGrown rules row (noted_row feeding row)
  pub same : feeding.flushed ≡ false → feeding.offset ≤ row.offset → noted_row feeding row ≡ row
