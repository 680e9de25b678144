-- Going over a text byte by byte, from state to state. What the text means is said by its grammar.
use Rattle.std.specs.Prelude.{ℕ, suc, List, [], ◌∷◌, length, Option, None, Some, Result, Ok, Err}

module _ {State V : Type 0} (step : State → ℕ → Option State) (value_at : State → Option V) where
  abbrev pub ended : Option V → Result V ℕ
  ended None = Err 0
  ended (Some value) = Ok value

  abbrev pub followed : (State → Result V ℕ) → ℕ → Option State → Result V ℕ
  followed next left None = Err left
  followed next left (Some s) = next s

  -- the value of the text, or how many bytes are left from the one on at which it stops
  unfoldable pub outcome : State → List ℕ → Result V ℕ
  outcome s [] = ended (value_at s)
  outcome s (byte ∷ bytes) = followed (λ next. outcome next bytes) (suc (length bytes)) (step s byte)
