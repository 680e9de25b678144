-- What applying an act to an entry did.
use Rattle.std.specs.Prelude.{◌≡◌, ℕ, List, ◌++◌, Option, None, Some}
use Rattle.entry_model.specs.LogRecord.{LogRecord}
use Rattle.op_kinds.specs.Kept.{Kept}
use Rattle.op_kinds.specs.Operator.{Made, on_one_port}
use Rattle.op_kinds.specs.declared.action.Applied.{Applied}
use Rattle.op_kinds.specs.declared.action.Applied.TheVariants.{Done, Faulty}

-- what is kept, and what was put out, before and after
pub record Effect : Type 0 where
  pub kept : Kept
  pub kept_then : Kept
  pub out : List (ℕ × LogRecord)
  pub out_then : List (ℕ × LogRecord)

-- what was made is kept and put out
pub record Puts (made : Made) (effect : Effect) : Type 0 where
  pub kept : effect.kept_then ≡ made.kept
  pub out : effect.out_then ≡ effect.out ++ on_one_port made.sent

-- the entry came back, and nothing else came of it
pub record GivesBack (entry back : LogRecord) (effect : Effect) : Type 0 where
  pub same : back ≡ entry
  pub kept : effect.kept_then ≡ effect.kept
  pub out : effect.out_then ≡ effect.out

-- what the meaning says was done: it was put out, or the entry came back where it can't be done
abbrev pub IsApplied : Option Made → LogRecord → Effect → Applied → Type 0
IsApplied (Some made) entry effect Done = Puts made effect
IsApplied (Some made) entry effect (Faulty back) = ⊥
IsApplied None entry effect Done = ⊥
IsApplied None entry effect (Faulty back) = GivesBack entry back effect

abbrev pub effect : Kept → Kept → List (ℕ × LogRecord) → List (ℕ × LogRecord) → Effect
effect kept kept_then out out_then = record { kept = kept; kept_then = kept_then; out = out; out_then = out_then }
