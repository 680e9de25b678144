-- Which operator the settings of one ask for.
use Rattle.std.specs.Prelude.{◌≡◌, ⊤, ℕ, List, [], ◌∷◌, Bool, true, false, Option, None, Some, is_some}
use Rattle.container_parser.specs.declared.format.Format.{Format}
use Rattle.container_parser.specs.declared.format.Format.TheVariants as format
use Rattle.expr_lang.specs.Grammar.{IsExpression}
use Rattle.expr_lang.specs.Tree.{Tree}
use Rattle.field_ops.specs.Rows.{member_of}
use Rattle.field_paths.specs.PathText.{IsPathText}
use Rattle.field_paths.specs.Place.{Place}
use Rattle.op_kinds.specs.Operator as op
use Rattle.op_kinds.specs.Parsers.{IsParser, IsPattern, IsStampOf, IsGradingOf, protocol_of, columns_of, delimiters_of}
use Rattle.op_kinds.specs.Parsing.{Parsing, Stamp}
use Rattle.op_kinds.specs.Said.{by_pattern, as_json, as_record, as_pairs}
use Rattle.op_kinds.specs.Operator.{Act, Operator, conditional, router}
use Rattle.recombine.specs.Joining.{Joining}
use Rattle.settings_text.specs.declared.parsing.FormatSpec.{FormatSpec}
use Rattle.settings_text.specs.declared.parsing.FormatSpec.TheVariants as asked
use Rattle.settings_text.specs.declared.settings.OpKind.{OpKind}
use Rattle.settings_text.specs.declared.settings.OpSpec.{OpSpec}
use Rattle.settings_text.specs.declared.settings.RouteSpec.{RouteSpec}
use Rattle.settings_text.specs.declared.settings.OpKind.TheVariants as kind
use Rattle.settings_text.specs.declared.settings.OnError.{OnError}
use Rattle.time_severity.specs.Gradings.{Grading}
use Rattle.settings_text.specs.declared.settings.OnError.TheVariants.{Send, Drop, SendQuiet, DropQuiet}

-- the quiet forms act as the others
abbrev pub drops : OnError → Bool
drops Send = false
drops SendQuiet = false
drops Drop = true
drops DropQuiet = true

-- whether an entry is dropped on an error; noop passes all on, whatever its condition says
abbrev pub drops_faulty : OpKind → OnError → Bool
drops_faulty kind.Noop on_error = false
drops_faulty _ on_error = drops on_error

-- each text is that of the place
abbrev pub ArePathTexts : List (List ℕ) → List Place → Type 0
ArePathTexts [] [] = ⊤
ArePathTexts [] (place ∷ places) = ⊥
ArePathTexts (text ∷ texts) [] = ⊥
ArePathTexts (text ∷ texts) (place ∷ places) = IsPathText text place × ArePathTexts texts places

abbrev pub format_named : FormatSpec → Format
format_named asked.Docker = format.Docker
format_named asked.Crio = format.Crio
format_named asked.Containerd = format.Containerd

abbrev pub format_asked : Option FormatSpec → Option Format
format_asked None = None
format_asked (Some spec) = Some (format_named spec)

abbrev pub joining_of : Place → Bool → List ℕ → ℕ → Bool → Joining
joining_of field first separator most newest = record { first_marks = first; field = field; separator = separator; most_entries = most; newest = newest }

-- the text is that of the place, where there is one
abbrev pub IsPathIfAny : Option (List ℕ) → Option Place → Type 0
IsPathIfAny None None = ⊤
IsPathIfAny None (Some place) = ⊥
IsPathIfAny (Some text) None = ⊥
IsPathIfAny (Some text) (Some place) = IsPathText text place

-- an operator with one output does what the settings say
abbrev pub Does : OpKind → Act → Type 0
Does kind.Noop done = done ≡ op.noop
Does (kind.Container format by_path) done = done ≡ op.container (format_asked format) by_path
Does (kind.Move from to) done = (source : Place) × (target : Place) × IsPathText from source × IsPathText to target × (done ≡ op.move source target)
Does (kind.Copy from to) done = (source : Place) × (target : Place) × IsPathText from source × IsPathText to target × (done ≡ op.copy source target)
Does (kind.Add field value) done = (place : Place) × IsPathText field place × (done ≡ op.add place value)
Does (kind.Remove field) done = (place : Place) × IsPathText field place × (done ≡ op.remove place)
Does (kind.Flatten field) done = (parent : Place) × (name : List ℕ) × IsPathText field (member_of parent name) × (done ≡ op.flatten parent name)
Does (kind.Retain fields) done = (places : List Place) × ArePathTexts fields places × (done ≡ op.retain places)
Does (kind.Filter expr) done = (tree : Tree) × IsExpression expr tree × (done ≡ op.filter tree)
Does (kind.Json parser) done = (parsing : Parsing) × IsParser as_json parser parsing × (done ≡ op.parse parsing)
Does (kind.Csv delimiter header parser) done = (parsing : Parsing) × IsParser (as_record (columns_of delimiter header)) parser parsing × (done ≡ op.parse parsing)
Does (kind.KeyValue delimiter pair_delimiter parser) done = (parsing : Parsing) × IsParser (as_pairs (delimiters_of delimiter pair_delimiter)) parser parsing × (done ≡ op.parse parsing)
Does (kind.Regex regex parser) done = (parsing : Parsing) × IsPattern regex × IsParser (by_pattern regex) parser parsing × (done ≡ op.parse parsing)
Does (kind.Time time) done = (stamp : Stamp) × IsStampOf time stamp × (done ≡ op.stamp stamp)
Does (kind.Severity severity) done = (grading : Grading) × IsGradingOf severity grading × (done ≡ op.grade grading)
Does (kind.Syslog year location parser) done =
    (source : Place) × (target : Place) × IsPathText parser.parse_from source × IsPathText parser.parse_to target × (done ≡ op.syslog (protocol_of year location) source target)
Does (kind.Router routes default) done = ⊥
Does (kind.Recombine field first mark between most newest source) done = (place : Place) × (tree : Tree) × (from : Option Place)
    × IsPathText field place × IsExpression mark tree × IsPathIfAny source from × (done ≡ op.recombine (joining_of place first between most newest) tree from)

abbrev pub IsCondition : Option (List ℕ) → Option Tree → Type 0
IsCondition None None = ⊤
IsCondition None (Some tree) = ⊥
IsCondition (Some text) None = ⊥
IsCondition (Some text) (Some tree) = IsExpression text tree

-- each route's expression is that of the tree
abbrev pub AreExpressions : List RouteSpec → List Tree → Type 0
AreExpressions [] [] = ⊤
AreExpressions [] (tree ∷ trees) = ⊥
AreExpressions (route ∷ routes) [] = ⊥
AreExpressions (route ∷ routes) (tree ∷ trees) = IsExpression route.expr tree × AreExpressions routes trees

-- a router routes as the settings say
abbrev pub Routes : OpKind → List Tree → Bool → Type 0
Routes (kind.Router routes default) trees has_default = AreExpressions routes trees × (has_default ≡ is_some default)
Routes _ trees has_default = ⊥

abbrev pub IsCompiledTo : OpSpec → Operator → Type 0
IsCompiledTo spec (conditional condition act drops) = IsCondition spec.condition condition × Does spec.kind act × (drops ≡ drops_faulty spec.kind spec.on_error)
IsCompiledTo spec (router trees has_default) = (condition : Option Tree) × IsCondition spec.condition condition × Routes spec.kind trees has_default
