-- What must be readable in the settings of an operator, and for which cause there is none.
use Rattle.std.specs.Prelude.{◌≡◌, ◌≢◌, ◌<◌, ◌≤◌, ◌⊎◌, length, nat_lt, if◌then◌else◌, ℕ, List, [], ◌∷◌, ◌++◌, map, false, Option, None, Some, Result, Ok, Err}
use Rattle.expr_lang.specs.Outcome.{IsNoExpression, IsReadFault as IsExprFault}
use Rattle.expr_lang.specs.declared.read.ExprReadFault.TheVariants.{Syntax, Pattern as ExprPattern}
use Rattle.field_ops.specs.Rows.{member_of}
use Rattle.field_paths.specs.PathText.{IsPathText, IsFaultAt as IsPathFaultAt}
use Rattle.field_paths.specs.Place.{Place}
use Rattle.graph_core.specs.Wiring.{Has}
use Rattle.op_kinds.specs.Parsers.{count_named}
use Rattle.op_kinds.specs.declared.cause.OpCause.{OpCause}
use Rattle.op_kinds.specs.declared.cause.OpCause.TheVariants.{Path, Expr, Pattern, Layout, NoNames, Memory}
use Rattle.settings_text.specs.declared.parsing.LayoutType.{LayoutType}
use Rattle.settings_text.specs.declared.parsing.LayoutType.TheVariants.{Strptime, Gotime, Epoch}
use Rattle.settings_text.specs.declared.parsing.ParserKeys.{ParserKeys}
use Rattle.settings_text.specs.declared.parsing.SeveritySpec.{SeveritySpec}
use Rattle.settings_text.specs.declared.parsing.TimeSpec.{TimeSpec}
use Rattle.settings_text.specs.declared.settings.OpKind.{OpKind}
use Rattle.settings_text.specs.declared.settings.OpSpec.{OpSpec}
use Rattle.settings_text.specs.declared.settings.RouteSpec.{RouteSpec}
use Rattle.settings_text.specs.declared.settings.OpKind.TheVariants as kind
use Rattle.text_parsers.specs.Groups.{is_shallow, named_groups, names_in, reading}
use Rattle.time_layout.specs.GoLayouts.{go_parts}
use Rattle.time_layout.specs.LayoutText.{layout_parts}
use Rattle.time_layout.specs.declared.parts.Part.{Part}

-- a text that is to be read
pub data Reading : Type 0 where
  -- as a field path
  path : List ℕ → Reading
  -- as a field path with a member
  member : List ℕ → Reading
  expression : List ℕ → Reading
  -- as a pattern
  pattern : List ℕ → Reading
  -- as a pattern of which a group has a name
  names : List ℕ → Reading
  -- as the directives of a layout
  layout : List ℕ → Reading
  -- as the reference time of a layout
  go_layout : List ℕ → Reading
  -- as what a count since 1970 counts
  count : List ℕ → Reading

abbrev pub IsNoPath : List ℕ → Type 0
IsNoPath text = (place : Place) → IsPathText text place → ⊥

-- the text is no path, or one without members
abbrev pub IsNoMember : List ℕ → Type 0
IsNoMember text = (parent : Place) (name : List ℕ) → IsPathText text (member_of parent name) → ⊥

-- no parts are spelled by the text
abbrev pub IsNoLayout : List ℕ → Type 0
IsNoLayout text = (parts : List Part) → layout_parts text ≡ Ok parts → ⊥

abbrev pub IsNoGoLayout : List ℕ → Type 0
IsNoGoLayout text = (parts : List Part) → go_parts text ≡ Ok parts → ⊥

abbrev pub IsFaulty : Reading → Type 0
IsFaulty (path text) = IsNoPath text
IsFaulty (member text) = IsNoMember text
IsFaulty (expression text) = IsNoExpression text
IsFaulty (pattern text) = is_shallow (reading text) ≡ false
IsFaulty (names text) = named_groups (names_in (reading text)) ≡ []
IsFaulty (layout text) = IsNoLayout text
IsFaulty (go_layout text) = IsNoGoLayout text
IsFaulty (count text) = count_named text ≡ None

-- ---- what a type names

abbrev pub route_reading : RouteSpec → Reading
route_reading route = expression route.expr

abbrev pub layout_reading : LayoutType → List ℕ → Reading
layout_reading Strptime text = layout text
layout_reading Gotime text = go_layout text
layout_reading Epoch text = count text

abbrev pub time_readings : Option TimeSpec → List Reading
time_readings None = []
time_readings (Some spec) = path spec.parse_from ∷ layout_reading spec.layout_type spec.layout ∷ []

abbrev pub severity_readings : Option SeveritySpec → List Reading
severity_readings None = []
severity_readings (Some spec) = path spec.parse_from ∷ []

-- what all parsers name
abbrev pub parser_readings : ParserKeys → List Reading
parser_readings keys = path keys.parse_from ∷ path keys.parse_to ∷ (time_readings keys.timestamp ++ severity_readings keys.severity)

abbrev pub paths_if_any : Option (List ℕ) → List Reading
paths_if_any None = []
paths_if_any (Some text) = path text ∷ []

abbrev pub own_readings : OpKind → List Reading
own_readings kind.Noop = []
own_readings (kind.Container format by_path) = []
own_readings (kind.Move from to) = path from ∷ path to ∷ []
own_readings (kind.Copy from to) = path from ∷ path to ∷ []
own_readings (kind.Add field value) = path field ∷ []
own_readings (kind.Remove field) = path field ∷ []
own_readings (kind.Flatten field) = member field ∷ []
own_readings (kind.Retain fields) = map path fields
own_readings (kind.Filter expr) = expression expr ∷ []
own_readings (kind.Json parser) = parser_readings parser
own_readings (kind.Csv delimiter header parser) = parser_readings parser
own_readings (kind.KeyValue delimiter pair_delimiter parser) = parser_readings parser
own_readings (kind.Regex regex parser) = pattern regex ∷ names regex ∷ parser_readings parser
own_readings (kind.Time time) = time_readings (Some time)
own_readings (kind.Severity severity) = severity_readings (Some severity)
own_readings (kind.Syslog year location parser) = path parser.parse_from ∷ path parser.parse_to ∷ []
own_readings (kind.Router routes default) = map route_reading routes
own_readings (kind.Recombine field first mark between most newest source) = path field ∷ (paths_if_any source ++ expression mark ∷ [])

abbrev pub condition_readings : Option (List ℕ) → List Reading
condition_readings None = []
condition_readings (Some text) = expression text ∷ []

abbrev pub readings : OpSpec → List Reading
readings spec = own_readings spec.kind ++ condition_readings spec.condition

-- ---- causes

-- the text spells a root, which is no member
abbrev pub IsRoot : List ℕ → Type 0
IsRoot text = (place : Place) × IsPathText text place × (place.names ≡ [])

-- The reading is faulty, and this is the byte of its text that is told: the one at which the text goes wrong, its length where
-- only a member is missing, or 0 where it is known of the whole text alone.
abbrev pub IsFaultyAt : Reading → ℕ → Type 0
IsFaultyAt (path text) at = IsPathFaultAt text at
IsFaultyAt (member text) at = IsPathFaultAt text at ⊎ (IsRoot text × (at ≡ length text))
IsFaultyAt (expression text) at = IsExprFault text (Syntax at) ⊎ IsExprFault text (ExprPattern at)
IsFaultyAt (pattern text) at = IsFaulty (pattern text) × (at ≡ 0)
IsFaultyAt (names text) at = IsFaulty (names text) × (at ≡ 0)
IsFaultyAt (layout text) at = layout_parts text ≡ Err at
IsFaultyAt (go_layout text) at = go_parts text ≡ Err at
IsFaultyAt (count text) at = IsFaulty (count text) × (at ≡ 0)

-- the cause that a reading is faulty at this byte
abbrev pub cause_at : Reading → ℕ → OpCause
cause_at (path text) at = Path at
cause_at (member text) at = Path at
cause_at (expression text) at = Expr at
cause_at (pattern text) at = Pattern
cause_at (names text) at = NoNames
cause_at (layout text) at = Layout at
cause_at (go_layout text) at = Layout at
cause_at (count text) at = Layout at

-- of several causes the one with the least number counts
abbrev pub number : OpCause → ℕ
number Memory = 0
number (Path at) = 1
number (Expr at) = 2
number Pattern = 3
number (Layout at) = 4
number NoNames = 5

-- the number of the cause that a reading is faulty
abbrev pub rank : Reading → ℕ
rank reading = number (cause_at reading 0)

-- the one of two causes that counts, where the text of the first one stands first
abbrev pub least_of : OpCause → OpCause → OpCause
least_of one other = if nat_lt (number other) (number one) then other else one

-- a reading is faulty, for this cause; none before it has a cause that counts as much, and none behind it one that counts more
pub record IsLeastCause (all : List Reading) (cause : OpCause) : Type 0 where
  pub front : List Reading
  pub reading : Reading
  pub back : List Reading
  pub parts : all ≡ front ++ reading ∷ back
  pub at : ℕ
  pub faulty : IsFaultyAt reading at
  pub is : cause ≡ cause_at reading at
  pub first : (other : Reading) → Has front other → rank other ≤ rank reading → IsFaulty other → ⊥
  pub least : (other : Reading) → Has back other → rank other < rank reading → IsFaulty other → ⊥

-- Want of memory alone is free.
abbrev pub Caused : List Reading → OpCause → Type 0
Caused all cause = cause ≢ Memory → IsLeastCause all cause

-- all can be read
abbrev pub AreRead : List Reading → Type 0
AreRead all = (reading : Reading) → Has all reading → IsFaulty reading → ⊥

-- what two readers answer, or of their causes the one that counts
abbrev pub both : {A B : Type 0} → Result A OpCause → Result B OpCause → Result (A × B) OpCause
both (Ok x) (Ok y) = Ok (x, y)
both (Ok x) (Err cause) = Err cause
both (Err cause) (Ok y) = Err cause
both (Err cause) (Err other) = Err (least_of cause other)

-- what a reader answers: a cause that these texts have, or all of them can be read
abbrev pub Answers : {A : Type 0} → List Reading → Result A OpCause → Type 0
Answers all (Ok x) = AreRead all
Answers all (Err cause) = Caused all cause
