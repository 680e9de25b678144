-- The lines of one file.
use Rattle.std.specs.Prelude.{◌≡◌, ℕ, ◌<◌, ◌^◌, List, [], ◌∷◌, ◌++◌}
use Rattle.otlp_json.specs.OutputLine.{line_tail}

-- the line ends as one of the file with this id does, whatever its number
pub record IsOf (id : ℕ) (line : List ℕ) : Type 0 where
  pub front : List ℕ
  pub number : ℕ
  pub small : number < 2 ^ 64
  pub ends : line ≡ front ++ line_tail id number

-- of these lines those are of the file, in the order in which they stand
pub data AreOf (id : ℕ) : List (List ℕ) → List (List ℕ) → Type 0 where
  none : AreOf id [] []
  taken : {line : List ℕ} {lines own : List (List ℕ)} → IsOf id line → AreOf id lines own → AreOf id (line ∷ lines) (line ∷ own)
  passed : {line : List ℕ} {lines own : List (List ℕ)} → (IsOf id line → ⊥) → AreOf id lines own → AreOf id (line ∷ lines) own
