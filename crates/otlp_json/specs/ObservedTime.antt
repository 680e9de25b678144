-- The observed time that a line tells.
use Rattle.std.specs.Prelude.{◌≡◌, ℕ, List, ◌++◌, Option, None, Some, codes, decimal}
use Rattle.otlp_json.specs.RecordText.{observed_opening}

-- the text has the opening at one place, and this time with a closing quote behind it
pub record HasOneTime (time : ℕ) (text : List ℕ) : Type 0 where
  pub before : List ℕ
  pub after : List ℕ
  pub stands : text ≡ before ++ observed_opening ++ decimal time ++ codes "\"" ++ after
  pub only : (other more : List ℕ) → text ≡ other ++ observed_opening ++ more → other ≡ before

-- where there is no time, the text has the opening nowhere
abbrev pub HasObservedTime : Option ℕ → List ℕ → Type 0
HasObservedTime None text = (before after : List ℕ) → text ≡ before ++ observed_opening ++ after → ⊥
HasObservedTime (Some time) text = HasOneTime time text
