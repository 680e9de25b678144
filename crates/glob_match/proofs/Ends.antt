-- What brings a state of the reader to a glob, in the words of the grammar.
use Rattle.std.proofs.Common.{◌≡◌, ◌≢◌, ℕ, ◌+◌, ◌<◌, List, [], ◌∷◌, ◌++◌, refl, length, Bool, true, false, inl, inr, ◌⊎◌, append_assoc, arith}
use Rattle.std.specs.List.{list_all}
use Rattle.glob_match.specs.declared.pattern.Sign.{Sign}
use Rattle.glob_match.specs.declared.pattern.Unit.{Unit}
use Rattle.glob_match.specs.declared.pattern.Piece.{Piece}
use Rattle.glob_match.specs.declared.pattern.Component.{Component}
use Rattle.glob_match.specs.declared.pattern.Piece.TheVariants.{Single, AnyOf}
use Rattle.glob_match.specs.declared.reader.Place.{Place}
use Rattle.glob_match.specs.declared.reader.Place.TheVariants as place
use Rattle.glob_match.specs.declared.reader.Phase.{Phase}
use Rattle.glob_match.specs.declared.reader.Phase.TheVariants as phase
use Rattle.glob_match.specs.GlobText.{AreSigns, IsUnit, AreParts, in_part, AreComponents, single, is_negation}
use Rattle.glob_match.specs.Pattern.{Pattern, is_component, components as components_of}
use Rattle.glob_match.specs.Inner.Reader.{State, with_unit, with_class, escaped}

-- the text closes the component that is open, and brings those behind it
pub record EndsName (is_absolute : Bool) (closed : List Component) (opened : List Piece) (text : List ℕ) (pattern : Pattern) : Type 0 where
  pub pieces : List Piece
  pub others : List (List Piece)
  pub reads : AreComponents text pieces others
  pub proper : list_all is_component ((opened ++ pieces) ∷ others) ≡ true
  pub means : pattern ≡ record { is_absolute = is_absolute; components = closed ++ components_of (opened ++ pieces) others }

-- the text begins with the slash that makes it absolute
pub record EndsStart (is_absolute : Bool) (closed : List Component) (opened : List Piece) (text : List ℕ) (pattern : Pattern) : Type 0 where
  pub relative : is_absolute ≡ false
  pub no_components : length closed ≡ 0
  pub no_pieces : length opened ≡ 0
  pub rest : List ℕ
  pub slash : text ≡ 47 ∷ rest
  pub ends : EndsName true closed opened rest pattern

-- the text closes the part that is open, and the braces
pub record EndsPart (is_absolute : Bool) (closed : List Component) (opened : List Piece) (before : List (List Unit)) (units : List Unit) (text : List ℕ) (pattern : Pattern) : Type 0 where
  pub part : List Unit
  pub parts : List (List Unit)
  pub rest : List ℕ
  pub reads : AreParts text part parts rest
  pub ends : EndsName is_absolute closed (opened ++ AnyOf (before ++ (units ++ part) ∷ parts) ∷ []) rest pattern

abbrev pub EndsUnits : Place → State → List ℕ → Pattern → Type 0
EndsUnits place.Name s text pattern = EndsName s.is_absolute s.components s.pieces text pattern ⊎ EndsStart s.is_absolute s.components s.pieces text pattern
EndsUnits place.Part s text pattern = EndsPart s.is_absolute s.components s.pieces s.parts s.units text pattern

-- the text closes the class of which these signs are read
pub record EndsSigns (T : List Sign → List ℕ → Type 0) (read : List Sign) (text : List ℕ) : Type 0 where
  pub signs : List Sign
  pub rest : List ℕ
  pub reads : AreSigns text signs rest
  pub some : 0 < length (read ++ signs)
  pub ends : T (read ++ signs) rest

pub record EndsEscape (T : ℕ → List ℕ → Type 0) (text : List ℕ) : Type 0 where
  pub character : ℕ
  pub rest : List ℕ
  pub is : text ≡ character ∷ rest
  pub no_slash : character ≢ 47
  pub ends : T character rest

-- the text begins with `^` or `!`, or with another character
pub record EndsOpened (T : Bool → List ℕ → Type 0) (text : List ℕ) : Type 0 where
  pub character : ℕ
  pub rest : List ℕ
  pub is : text ≡ character ∷ rest
  pub cases : ((is_negation character ≡ true) × T true rest) ⊎ ((is_negation character ≡ false) × T false text)

abbrev pub AfterClass : Place → Bool → State → Pattern → List Sign → List ℕ → Type 0
AfterClass p is_negated s pattern signs rest = EndsUnits p (with_class p is_negated signs s) rest pattern

abbrev pub EndsFrom : Phase → State → List ℕ → Pattern → Type 0
EndsFrom (phase.Units p) s text pattern = EndsUnits p s text pattern
EndsFrom (phase.Escape p) s text pattern = EndsEscape (λ c rest. EndsUnits p (escaped p c s) rest pattern) text
EndsFrom (phase.Opened p) s text pattern = EndsOpened (λ is_negated rest. EndsSigns (AfterClass p is_negated s pattern) s.signs rest) text
EndsFrom (phase.Signs p is_negated) s text pattern = EndsSigns (AfterClass p is_negated s pattern) s.signs text
EndsFrom (phase.EscapedSign p is_negated) s text pattern = EndsEscape (λ c rest. EndsSigns (AfterClass p is_negated s pattern) (s.signs ++ record { character = c; is_escaped = true } ∷ []) rest) text

abbrev pub Ends : State → List ℕ → Pattern → Type 0
Ends s text pattern = EndsFrom s.phase s text pattern

-- a unit more
pub unit_in_name : (s : State) (text more : List ℕ) (unit : Unit) (pattern : Pattern) → IsUnit place.Name text unit more → EndsUnits place.Name (with_unit place.Name unit s) more pattern → EndsUnits place.Name s text pattern
unit_in_name s text more unit pattern is (inl ends) =
    let joined : (s.pieces ++ Single unit ∷ []) ++ ends.pieces ≡ s.pieces ++ Single unit ∷ ends.pieces = append_assoc s.pieces (Single unit ∷ []) ends.pieces in
    inl (record {
      pieces = Single unit ∷ ends.pieces;
      others = ends.others;
      reads = single is ends.reads;
      proper = rw (← joined) ends.proper;
      means = rw (← joined) ends.means;
    })
unit_in_name s text more unit pattern is (inr ends) = absurd (omega (arith, some_pieces s.pieces (Single unit), ends.no_pieces))
  where
    some_pieces : (pieces : List Piece) (piece : Piece) → length (pieces ++ piece ∷ []) ≡ length pieces + 1
    some_pieces [] piece = refl
    some_pieces (first ∷ pieces) piece = omega (arith, some_pieces pieces piece)

pub unit_in_part : (s : State) (text more : List ℕ) (unit : Unit) (pattern : Pattern) → IsUnit place.Part text unit more → EndsUnits place.Part (with_unit place.Part unit s) more pattern → EndsUnits place.Part s text pattern
unit_in_part s text more unit pattern is ends =
    let joined : (s.units ++ unit ∷ []) ++ ends.part ≡ s.units ++ unit ∷ ends.part = append_assoc s.units (unit ∷ []) ends.part in
    record {
      part = unit ∷ ends.part;
      parts = ends.parts;
      rest = ends.rest;
      reads = in_part is ends.reads;
      ends = rw (← joined) ends.ends;
    }

pub unit_more : (p : Place) (s : State) (text more : List ℕ) (unit : Unit) (pattern : Pattern) → IsUnit p text unit more → EndsUnits p (with_unit p unit s) more pattern → EndsUnits p s text pattern
unit_more place.Name s text more unit pattern is ends = unit_in_name s text more unit pattern is ends
unit_more place.Part s text more unit pattern is ends = unit_in_part s text more unit pattern is ends
