-- The states in which the words of a text are gone over one by one. What they spell is `Spells`.
use Rattle.std.specs.Prelude.{ℕ, ◌+◌, Bool, true, false, nat_lt, cond, if◌then◌else◌, List, [], ◌∷◌, ◌++◌, map, reverse, Option, None, Some, option_map, option_and_then}
use Rattle.entry_model.specs.Datum.{Datum, datum, list, items_of}
use Rattle.expr_lang.specs.declared.token.Comparison.{Comparison}
use Rattle.expr_lang.specs.declared.token.Token.{Token}
use Rattle.expr_lang.specs.declared.token.Token.TheVariants as token
use Rattle.expr_lang.specs.declared.frames.Frame as code
use Rattle.expr_lang.specs.declared.frames.Frame.TheVariants as code_frame
use Rattle.expr_lang.specs.declared.parser.Phase as code_phase
use Rattle.expr_lang.specs.declared.parser.Phase.TheVariants as at_phase
use Rattle.expr_lang.specs.declared.parser.Parser as code_parser
use Rattle.expr_lang.specs.Grammar.{constant_of, leaf_of}
use Rattle.expr_lang.specs.Row.{Placed}
use Rattle.expr_lang.specs.Tree.{Tree, constant, negation, conjunction, disjunction, comparison, matching}
use Rattle.expr_lang.specs.TreeOf.{tree}

-- a part of the tree whose last operand has not come yet
pub data Frame : Type 0 where
  grouped : Frame
  negated : ℕ → Frame
  compared_to : Comparison → ℕ → Tree → Frame
  conjoined_to : ℕ → Tree → Frame
  disjoined_to : ℕ → Tree → Frame

pub data Phase : Type 0 where
  wants_operand : Phase
  -- behind an operand; a comparison isn't compared again
  has_operand : Tree → Bool → Phase
  wants_pattern : ℕ → Tree → Phase
  first_item : Phase
  next_item : List Datum → Phase
  after_item : List Datum → Phase

-- the innermost frame comes first
pub record State : Type 0 where
  pub phase : Phase
  pub frames : List Frame

abbrev pub nests : Frame → Bool
nests grouped = true
nests (negated at) = true
nests _ = false

-- how many groups and negations are open
abbrev pub depth : List Frame → ℕ
depth [] = 0
depth (frame ∷ frames) = cond (nests frame) (1 + depth frames) (depth frames)

abbrev pub has_room : List Frame → Bool
has_room frames = nat_lt (depth frames) 32

abbrev pub waiting : List Frame → State
waiting frames = record { phase = wants_operand; frames = frames }

abbrev pub standing : List Frame → Tree → Bool → State
standing frames tree compared = record { phase = has_operand tree compared; frames = frames }

-- behind an operand, with the negations and the comparison of which it is the last part
abbrev pub settled : List Frame → Tree → State
settled [] tree = standing [] tree false
settled (negated at ∷ frames) tree = settled frames (negation at tree)
settled (compared_to operator at left ∷ frames) tree = standing frames (comparison operator at left tree) true
settled (grouped ∷ frames) tree = standing (grouped ∷ frames) tree false
settled (conjoined_to at left ∷ frames) tree = standing (conjoined_to at left ∷ frames) tree false
settled (disjoined_to at left ∷ frames) tree = standing (disjoined_to at left ∷ frames) tree false

-- an operand with the conjunction, and with the disjunction, of which it is the last part
abbrev pub joined_and : List Frame → Tree → List Frame × Tree
joined_and (conjoined_to at left ∷ frames) tree = (frames, conjunction at left tree)
joined_and frames tree = (frames, tree)

abbrev pub joined_or : List Frame → Tree → List Frame × Tree
joined_or (disjoined_to at left ∷ frames) tree = (frames, disjunction at left tree)
joined_or frames tree = (frames, tree)

abbrev pub joined : List Frame → Tree → List Frame × Tree
joined frames tree = joined_or (joined_and frames tree).0 (joined_and frames tree).1

abbrev pub closed : List Frame × Tree → Option State
closed (grouped ∷ frames, tree) = Some (settled frames tree)
closed _ = None

abbrev pub ended : List Frame × Tree → Option Tree
ended ([], tree) = Some tree
ended _ = None

abbrev pub opened : List Frame → State → Option State
opened frames next = (if has_room frames then Some next else None)

abbrev pub leaf_next : List Frame → Option Tree → Option State
leaf_next frames tree = option_map (settled frames) tree

abbrev pub operand_step : List Frame → Token → ℕ → Option State
operand_step frames token.Not at = opened frames (waiting (negated at ∷ frames))
operand_step frames token.OpenGroup at = opened frames (waiting (grouped ∷ frames))
operand_step frames token.OpenList at = opened frames (record { phase = first_item; frames = frames })
operand_step frames word at = leaf_next frames (leaf_of word)

abbrev pub operator_step : List Frame → Tree → Bool → Token → ℕ → Option State
operator_step frames tree false (token.Compares operator) at = Some (waiting (compared_to operator at tree ∷ frames))
operator_step frames tree false token.Matches at = Some (record { phase = wants_pattern at tree; frames = frames })
operator_step frames tree compared token.And at =
    Some (waiting (conjoined_to at (joined_and frames tree).1 ∷ (joined_and frames tree).0))
operator_step frames tree compared token.Or at =
    Some (waiting (disjoined_to at (joined frames tree).1 ∷ (joined frames tree).0))
operator_step frames tree compared token.CloseGroup at = closed (joined frames tree)
operator_step frames tree compared word at = None

abbrev pub pattern_step : List Frame → ℕ → Tree → Token → Option State
pattern_step frames at tree (token.Text source) = Some (standing frames (matching at tree source) true)
pattern_step frames at tree word = None

abbrev pub item_next : List Frame → List Datum → Option Datum → Option State
item_next frames values item = option_map (λ value. record { phase = after_item (values ++ value ∷ []); frames = frames }) item

abbrev pub item_step : List Frame → List Datum → Token → Option State
item_step frames values word = item_next frames values (constant_of word)

abbrev pub listed : List Frame → List Datum → State
listed frames values = settled frames (constant (list (items_of values)))

abbrev pub first_item_step : List Frame → Token → Option State
first_item_step frames token.CloseList = Some (listed frames [])
first_item_step frames word = item_step frames [] word

abbrev pub after_item_step : List Frame → List Datum → Token → Option State
after_item_step frames values token.Comma = Some (record { phase = next_item values; frames = frames })
after_item_step frames values token.CloseList = Some (listed frames values)
after_item_step frames values word = None

abbrev pub step_from : Phase → List Frame → Token → ℕ → Option State
step_from wants_operand frames word at = operand_step frames word at
step_from (has_operand tree compared) frames word at = operator_step frames tree compared word at
step_from (wants_pattern place tree) frames word at = pattern_step frames place tree word
step_from first_item frames word at = first_item_step frames word
step_from (next_item values) frames word at = item_step frames values word
step_from (after_item values) frames word at = after_item_step frames values word

abbrev pub step : State → Token → ℕ → Option State
step state word at = step_from state.phase state.frames word at

abbrev pub start : State
start = waiting []

-- the tree, where the words may end here
abbrev pub tree_from : Phase → List Frame → Option Tree
tree_from (has_operand tree compared) frames = ended (joined frames tree)
tree_from _ frames = None

abbrev pub tree_at : State → Option Tree
tree_at state = tree_from state.phase state.frames

-- the tree that words lead to, from a state
abbrev pub finished : State → List Placed → Option Tree
finished state [] = tree_at state
finished state (placed ∷ row) = option_and_then (λ next. finished next row) (step state placed.0 placed.1)

-- what the parser stands for

abbrev pub frame : code.Frame → Frame
frame code_frame.Group = grouped
frame (code_frame.Not at) = negated at
frame (code_frame.Compares at operator left) = compared_to operator at (tree left)
frame (code_frame.And at left) = conjoined_to at (tree left)
frame (code_frame.Or at left) = disjoined_to at (tree left)

abbrev pub frames_of : List code.Frame → List Frame
frames_of items = reverse (map frame items)

abbrev pub phase : code_phase.Phase → Phase
phase at_phase.Operand = wants_operand
phase (at_phase.Operator node compared) = has_operand (tree node) compared
phase (at_phase.Pattern at node) = wants_pattern at (tree node)
phase at_phase.FirstItem = first_item
phase (at_phase.NextItem values) = next_item (map datum values.items)
phase (at_phase.AfterItem values) = after_item (map datum values.items)

abbrev pub state_of : code_parser.Parser → State
state_of parser = record { phase = phase parser.phase; frames = frames_of parser.frames.items }
