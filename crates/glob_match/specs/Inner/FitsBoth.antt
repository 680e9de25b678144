-- Texts that fit units and then pieces.
use Rattle.std.specs.Prelude.{◌≡◌, ℕ, List, ◌++◌, Contains}
use Rattle.glob_match.specs.declared.pattern.Unit.{Unit}
use Rattle.glob_match.specs.declared.pattern.Piece.{Piece}
use Rattle.glob_match.specs.Fits.{FitsUnit, FitsUnits, FitsPieces}

pub record FitsBoth (units : List Unit) (pieces : List Piece) (text : List ℕ) : Type 0 where
  pub front : List ℕ
  pub rest : List ℕ
  pub is : text ≡ front ++ rest
  pub in_front : FitsUnits units front
  pub behind : FitsPieces pieces rest

pub record FitsFrom (unit : Unit) (units : List Unit) (pieces : List Piece) (text : List ℕ) : Type 0 where
  pub front : List ℕ
  pub rest : List ℕ
  pub is : text ≡ front ++ rest
  pub in_front : FitsUnit unit front
  pub behind : FitsBoth units pieces rest

pub record FitsSome (parts : List (List Unit)) (pieces : List Piece) (text : List ℕ) : Type 0 where
  pub part : List Unit
  pub is_one : Contains parts part
  pub fits : FitsBoth part pieces text
