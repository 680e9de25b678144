-- What a step did.
use Rattle.std.specs.Prelude.{◌≡◌, List, ◌++◌, map, Result, Ok, Err, ⊤}
use Rattle.entry_model.specs.LogRecord.{LogRecord, log_record}
use Rattle.entry_model.specs.declared.entry.Entry.{Entry}
use Rattle.recombine.specs.Group.{Group}
use Rattle.recombine.specs.Recombined.{Made, Refusal, not_text, too_deep}
use Rattle.recombine.specs.declared.fault.StepFault.{StepFault}
use Rattle.recombine.specs.declared.fault.StepFault.TheVariants.{NotText, TooDeep, Memory}

-- entries in memory, as what they are
abbrev pub seen : List Entry → List LogRecord
seen entries = map log_record entries

-- the open groups, and what was sent on, before and after
pub record Effect : Type 0 where
  pub groups : List Group
  pub groups_then : List Group
  pub out : List LogRecord
  pub out_then : List LogRecord

abbrev pub effect : List Group → List Group → List Entry → List Entry → Effect
effect groups groups_then out out_then = record { groups = groups; groups_then = groups_then; out = seen out; out_then = seen out_then }

-- what was made is kept and sent on
pub record Puts (made : Made) (effect : Effect) : Type 0 where
  pub groups : effect.groups_then ≡ made.groups
  pub out : effect.out_then ≡ effect.out ++ made.sent

-- the entry came back, and nothing else came of it
pub record GivesBack (entry back : LogRecord) (effect : Effect) : Type 0 where
  pub same : back ≡ entry
  pub groups : effect.groups_then ≡ effect.groups
  pub out : effect.out_then ≡ effect.out

-- what the meaning says was done: it was put out, or the entry came back for the reason that it says; want of memory says
-- nothing
abbrev pub IsStepped : Result Made Refusal → LogRecord → Effect → Result (Unit {0}) StepFault → Type 0
IsStepped (Ok made) entry effect (Ok _) = Puts made effect
IsStepped (Ok made) entry effect (Err (NotText back)) = ⊥
IsStepped (Ok made) entry effect (Err (TooDeep back)) = ⊥
IsStepped (Ok made) entry effect (Err Memory) = ⊤
IsStepped (Err not_text) entry effect (Ok _) = ⊥
IsStepped (Err not_text) entry effect (Err (NotText back)) = GivesBack entry (log_record back) effect
IsStepped (Err not_text) entry effect (Err (TooDeep back)) = ⊥
IsStepped (Err not_text) entry effect (Err Memory) = ⊤
IsStepped (Err too_deep) entry effect (Ok _) = ⊥
IsStepped (Err too_deep) entry effect (Err (NotText back)) = ⊥
IsStepped (Err too_deep) entry effect (Err (TooDeep back)) = GivesBack entry (log_record back) effect
IsStepped (Err too_deep) entry effect (Err Memory) = ⊤
