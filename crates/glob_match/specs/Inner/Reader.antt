-- The states in which the reader goes over a text character by character. What a text means is `IsGlobText`.
use Rattle.std.specs.Prelude.{ℕ, List, [], ◌∷◌, ◌++◌, length, Bool, true, false, not, Option, None, Some, option_and_then, if◌then◌else◌, ◌==◌, ◌||◌, ◌&&◌}
use Rattle.glob_match.specs.declared.pattern.Sign.{Sign}
use Rattle.glob_match.specs.declared.pattern.Unit.{Unit}
use Rattle.glob_match.specs.declared.pattern.Unit.TheVariants.{Plain, Escaped, One, Star, Class}
use Rattle.glob_match.specs.declared.pattern.Piece.{Piece}
use Rattle.glob_match.specs.declared.pattern.Piece.TheVariants.{Single, AnyOf}
use Rattle.glob_match.specs.declared.pattern.Component.{Component}
use Rattle.glob_match.specs.declared.reader.Place.{Place}
use Rattle.glob_match.specs.declared.reader.Place.TheVariants as place
use Rattle.glob_match.specs.declared.reader.Phase.{Phase}
use Rattle.glob_match.specs.declared.reader.Phase.TheVariants as phase
use Rattle.glob_match.specs.declared.reader.Reader.{Reader}
use Rattle.glob_match.specs.CharacterSet.{spans_of}
use Rattle.glob_match.specs.GlobText.{is_negation}
use Rattle.glob_match.specs.Pattern.{Pattern, is_component, component, last_components}

pub record State : Type 0 where
  pub phase : Phase
  pub is_absolute : Bool
  -- the components that are closed
  pub components : List Component
  -- the pieces of the component that is open
  pub pieces : List Piece
  -- the parts and the units of the braces that are open
  pub parts : List (List Unit)
  pub units : List Unit
  -- the signs of the class that is open
  pub signs : List Sign

abbrev pub state_of : Reader → State
state_of reader = record {
  phase = reader.phase;
  is_absolute = reader.is_absolute;
  components = reader.components.items;
  pieces = reader.pieces.items;
  parts = reader.parts.items;
  units = reader.units.items;
  signs = reader.signs.items;
}

abbrev pub start : State
start = record { phase = phase.Units place.Name; is_absolute = false; components = []; pieces = []; parts = []; units = []; signs = [] }

-- with the unit behind those of its place
abbrev pub with_unit : Place → Unit → State → State
with_unit place.Name unit s = record s { pieces = s.pieces ++ Single unit ∷ [] }
with_unit place.Part unit s = record s { units = s.units ++ unit ∷ [] }

abbrev pub escaped : Place → ℕ → State → State
escaped p c s = with_unit p (Escaped c) (record s { phase = phase.Units p })

abbrev pub with_sign : Place → Bool → ℕ → Bool → State → State
with_sign place is_negated c is_escaped s = record s { phase = phase.Signs place is_negated; signs = s.signs ++ record { character = c; is_escaped = is_escaped } ∷ [] }

-- with the class of these signs
abbrev pub with_class : Place → Bool → List Sign → State → State
with_class p is_negated signs s = with_unit p (Class (record { is_negated = is_negated; spans = spans_of signs })) (record s { phase = phase.Units p; signs = [] })

unfoldable pub begun_unit : Place → State → ℕ → State
begun_unit p s c =
    if c == 92 then record s { phase = phase.Escape p } else
    if c == 91 then record s { phase = phase.Opened p; signs = [] } else
    if c == 42 then with_unit p Star s else
    if c == 63 then with_unit p One s else with_unit p (Plain c) s

unfoldable pub slashed : State → Option State
slashed s =
    if is_component s.pieces then Some (record s { components = s.components ++ component s.pieces ∷ []; pieces = [] }) else
    if not s.is_absolute && ((length s.components == 0) && (length s.pieces == 0)) then Some (record s { is_absolute = true }) else None

unfoldable pub in_name : State → ℕ → Option State
in_name s c =
    if c == 47 then slashed s else
    if c == 123 then Some (record s { phase = phase.Units place.Part; parts = []; units = [] }) else Some (begun_unit place.Name s c)

-- with the part behind those that are closed
abbrev pub with_part : State → State
with_part s = record s { parts = s.parts ++ s.units ∷ []; units = [] }

-- with the braces behind the pieces
abbrev pub with_parts : State → State
with_parts s = record s { phase = phase.Units place.Name; pieces = s.pieces ++ AnyOf (s.parts ++ s.units ∷ []) ∷ []; parts = []; units = [] }

unfoldable pub in_part : State → ℕ → Option State
in_part s c =
    if c == 44 then Some (with_part s) else
    if c == 125 then Some (with_parts s) else
    if (c == 47) || (c == 123) then None else Some (begun_unit place.Part s c)

unfoldable pub classed : Place → Bool → State → Option State
classed p is_negated s = if length s.signs == 0 then None else Some (with_class p is_negated s.signs s)

unfoldable pub in_signs : Place → Bool → State → ℕ → Option State
in_signs p is_negated s c =
    if c == 93 then classed p is_negated s else
    if c == 92 then Some (record s { phase = phase.EscapedSign p is_negated }) else
    if c == 47 then None else Some (with_sign p is_negated c false s)

unfoldable pub in_opened : Place → State → ℕ → Option State
in_opened p s c = if is_negation c then Some (record s { phase = phase.Signs p true }) else in_signs p false s c

abbrev pub step_from : Phase → State → ℕ → Option State
step_from (phase.Units place.Name) s c = in_name s c
step_from (phase.Units place.Part) s c = in_part s c
step_from (phase.Escape p) s c = if c == 47 then None else Some (escaped p c s)
step_from (phase.Opened p) s c = in_opened p s c
step_from (phase.Signs p is_negated) s c = in_signs p is_negated s c
step_from (phase.EscapedSign p is_negated) s c = if c == 47 then None else Some (with_sign p is_negated c true s)

abbrev pub step : State → ℕ → Option State
step s c = step_from s.phase s c

abbrev pub steps : State → List ℕ → Option State
steps s [] = Some s
steps s (c ∷ text) = option_and_then (λ next. steps next text) (step s c)

-- the text may end in a component that is whole
abbrev pub may_end : Phase → Bool
may_end (phase.Units place.Name) = true
may_end (phase.Units place.Part) = false
may_end (phase.Escape _) = false
may_end (phase.Opened _) = false
may_end (phase.Signs _ _) = false
may_end (phase.EscapedSign _ _) = false

-- the pattern, where the text may end here
unfoldable pub pattern_read : State → Option Pattern
pattern_read s =
    if may_end s.phase && is_component s.pieces
    then Some (record { is_absolute = s.is_absolute; components = s.components ++ last_components s.pieces })
    else None

-- a bracket or a brace is open
abbrev pub is_open : Phase → Bool
is_open (phase.Units place.Name) = false
is_open (phase.Units place.Part) = true
is_open (phase.Escape place.Name) = false
is_open (phase.Escape place.Part) = true
is_open (phase.Opened _) = true
is_open (phase.Signs _ _) = true
is_open (phase.EscapedSign _ _) = true
