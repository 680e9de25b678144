-- What the pieces of a component match: a relation between pieces and characters.
use Rattle.std.specs.Prelude.{◌≡◌, ℕ, List, [], ◌∷◌, ◌++◌, ⊤, IsTrue, Contains}
use Rattle.glob_match.specs.declared.pattern.Unit.{Unit}
use Rattle.glob_match.specs.declared.pattern.Unit.TheVariants.{Plain, Escaped, One, Star, Class}
use Rattle.glob_match.specs.declared.pattern.Piece.{Piece}
use Rattle.glob_match.specs.declared.pattern.Piece.TheVariants.{Single, AnyOf}
use Rattle.glob_match.specs.CharacterSet.{admits}

-- the text is made of parts, one for each of xs and in this order
abbrev pub InARow : {A : Type 0} → (A → List ℕ → Type 0) → List A → List ℕ → Type 0
InARow Fits [] text = text ≡ []
InARow Fits (x ∷ xs) text = (front : List ℕ) × (rest : List ℕ) × (text ≡ front ++ rest) × Fits x front × InARow Fits xs rest

abbrev pub FitsUnit : Unit → List ℕ → Type 0
FitsUnit (Plain c) text = text ≡ c ∷ []
FitsUnit (Escaped c) text = text ≡ c ∷ []
FitsUnit One text = (c : ℕ) × (text ≡ c ∷ [])
FitsUnit Star text = ⊤
FitsUnit (Class set) text = (c : ℕ) × (text ≡ c ∷ []) × IsTrue (admits set c)

abbrev pub FitsUnits : List Unit → List ℕ → Type 0
FitsUnits units text = InARow FitsUnit units text

abbrev pub FitsPiece : Piece → List ℕ → Type 0
FitsPiece (Single unit) text = FitsUnit unit text
FitsPiece (AnyOf parts) text = (part : List Unit) × Contains parts part × FitsUnits part text

abbrev pub FitsPieces : List Piece → List ℕ → Type 0
FitsPieces pieces text = InARow FitsPiece pieces text
