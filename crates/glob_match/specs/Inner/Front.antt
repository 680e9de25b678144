-- The components in front of the first `**`, laid on names one by one.
use Rattle.std.specs.Prelude.{ℕ, ◌<◌, ◌↔◌, List, ◌∷◌, length, take}
use Rattle.std.specs.Str.{chars}
use Rattle.glob_match.specs.declared.matching.Front.{Front}
use Rattle.glob_match.specs.declared.matching.Front.TheVariants as front
use Rattle.glob_match.specs.declared.pattern.Piece.{Piece}
use Rattle.glob_match.specs.declared.pattern.Component.{Component}
use Rattle.glob_match.specs.declared.pattern.Component.TheVariants.{Folders, Name}
use Rattle.glob_match.specs.Fits.{FitsPieces}
use Rattle.glob_match.specs.GlobMatch.{FitsNames}
use Rattle.glob_match.specs.Inner.Walked.{names_left}

-- the components fit up to a `**`, behind which these are left
pub data FitsUpTo : List Component → List (List ℕ) → List Component → List (List ℕ) → Type 0 where
  here : {components : List Component} {names : List (List ℕ)} → FitsUpTo (Folders ∷ components) names components names
  behind : {pieces : List Piece} {components left : List Component} {name : List ℕ} {others rest : List (List ℕ)} → FitsPieces pieces (chars name) → FitsUpTo components others left rest → FitsUpTo (Name pieces ∷ components) (name ∷ others) left rest

abbrev pub IsFront : List Component → List (List ℕ) → Front → Type 0
IsFront components names front.Whole = FitsNames components names
IsFront components names (front.Folders left rest) = FitsUpTo components names left.now (names_left rest)
IsFront components names front.Other = FitsNames components names → ⊥

-- the same for `**` and the components behind it
abbrev pub IsFoundFront : List Component → List (List ℕ) → Front → Type 0
IsFoundFront components names front.Whole = FitsNames (Folders ∷ components) names
IsFoundFront components names (front.Folders left rest) = (length left.now < length components) × (FitsNames (Folders ∷ components) names ↔ FitsNames (Folders ∷ left.now) (names_left rest))
IsFoundFront components names front.Other = FitsNames (Folders ∷ components) names → ⊥

-- the first components, fewer than all, fit the names
pub record MayHold (components : List Component) (names : List (List ℕ)) : Type 0 where
  pub count : ℕ
  pub fewer : count < length components
  pub fits : FitsNames (take count components) names
