-- An entry that is joined, with what is asked of it.
use Rattle.std.specs.Prelude.{ℕ, List, Bool, ◌&&◌, not}
use Rattle.entry_model.specs.LogRecord.{LogRecord}
use Rattle.recombine.specs.Joining.{Joining}

pub record Item : Type 0 where
  pub source : List ℕ
  -- the text at the field
  pub text : List ℕ
  pub mark : Bool
  pub entry : LogRecord

-- it begins a group of its source
abbrev pub is_first : Joining → Item → Bool
is_first joining x = joining.first_marks && x.mark

-- it ends the group of its source
abbrev pub is_last : Joining → Item → Bool
is_last joining x = not joining.first_marks && x.mark
