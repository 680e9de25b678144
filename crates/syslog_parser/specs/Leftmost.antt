-- Where a text stops being the front of any text that is a message. Nothing here speaks of syslog.
use Rattle.std.specs.Prelude.{ℕ, ◌+◌, ◌<◌, ◌≤◌, List, ◌++◌, length, take}

module _ {V : Type 0} (Spells : List ℕ → V → Type 0) where
  -- some text that begins so spells a value
  pub record Begins (front : List ℕ) : Type 0 where
    pub more : List ℕ
    pub value : V
    pub goes_on : Spells (front ++ more) value

  -- `at` is the first byte from which the text can't go on, or its length where only more is missing
  pub record IsLeftmostFault (text : List ℕ) (at : ℕ) : Type 0 where
    pub within : at ≤ length text
    pub begins : Begins (take at text)
    pub stops : at < length text → Begins (take (at + 1) text) → ⊥
    pub none : (value : V) → Spells text value → ⊥
