-- Which words may come next, and how many bytes at the front of a text begin one that has a fixed spelling.
use Rattle.std.specs.Prelude.{ℕ, Bool, true, false, not, List, [], ◌∷◌, codes, max, is_some, cond}
use Rattle.std.specs.List.{list_any}
use Rattle.expr_lang.specs.declared.parser.Wanted.{Wanted}
use Rattle.expr_lang.specs.declared.parser.Wanted.TheVariants as wanted
use Rattle.expr_lang.specs.declared.token.Token.{Token}
use Rattle.expr_lang.specs.declared.token.Token.TheVariants as token
use Rattle.expr_lang.specs.Grammar.{leaf_of, constant_of}
use Rattle.expr_lang.specs.Longest.{common}
use Rattle.expr_lang.specs.Machine.{Phase, wants_operand, has_operand, wants_pattern, first_item, next_item, after_item, Frame, grouped, State, has_room}

-- the kinds of words that may come next

abbrev pub is_group : Frame → Bool
is_group grouped = true
is_group _ = false

abbrev pub wanted_from : Phase → List Frame → Wanted
wanted_from wants_operand frames = wanted.Operand (has_room frames)
wanted_from (has_operand tree compared) frames = wanted.Operator compared (list_any is_group frames)
wanted_from (wants_pattern at tree) frames = wanted.Pattern
wanted_from first_item frames = wanted.FirstItem
wanted_from (next_item values) frames = wanted.NextItem
wanted_from (after_item values) frames = wanted.AfterItem

abbrev pub wanted_by : State → Wanted
wanted_by state = wanted_from state.phase state.frames

abbrev pub takes : Wanted → Token → Bool
takes (wanted.Operand nests) token.Not = nests
takes (wanted.Operand nests) token.OpenGroup = nests
takes (wanted.Operand nests) token.OpenList = nests
takes (wanted.Operand nests) word = is_some (leaf_of word)
takes (wanted.Operator compared closes) token.And = true
takes (wanted.Operator compared closes) token.Or = true
takes (wanted.Operator compared closes) token.CloseGroup = closes
takes (wanted.Operator compared closes) token.Matches = not compared
takes (wanted.Operator compared closes) (token.Compares operator) = not compared
takes (wanted.Operator compared closes) word = false
takes wanted.Pattern (token.Text source) = true
takes wanted.Pattern word = false
takes wanted.FirstItem token.CloseList = true
takes wanted.FirstItem word = is_some (constant_of word)
takes wanted.NextItem word = is_some (constant_of word)
takes wanted.AfterItem token.Comma = true
takes wanted.AfterItem token.CloseList = true
takes wanted.AfterItem word = false

abbrev pub takes_operand : Wanted → Bool
takes_operand (wanted.Operand nests) = true
takes_operand _ = false

abbrev pub negates : Token → Bool
negates token.Not = true
negates _ = false

-- the spellings of the words that are wanted, but for ints, texts and paths

abbrev pub leaves : List (List ℕ)
leaves = codes "true" ∷ codes "false" ∷ codes "nil" ∷ codes "severity_number" ∷ codes "severity_text" ∷ []

abbrev pub openings : List (List ℕ)
openings = codes "not" ∷ codes "!" ∷ codes "(" ∷ codes "[" ∷ []

abbrev pub joins : List (List ℕ)
joins = codes "and" ∷ codes "&&" ∷ codes "or" ∷ codes "||" ∷ []

abbrev pub comparisons : List (List ℕ)
comparisons = codes "==" ∷ codes "!=" ∷ codes "<=" ∷ codes "<" ∷ codes ">=" ∷ codes ">" ∷ codes "contains" ∷ codes "startsWith" ∷ codes "endsWith" ∷ codes "in" ∷ codes "matches" ∷ []

abbrev pub constants : List (List ℕ)
constants = codes "true" ∷ codes "false" ∷ codes "nil" ∷ []

abbrev pub roots : List (List ℕ)
roots = codes "body" ∷ codes "attributes" ∷ codes "resource" ∷ []

-- the most bytes that the text has in common with one of them
abbrev pub longest : List (List ℕ) → List ℕ → ℕ
longest [] bytes = 0
longest (spelling ∷ spellings) bytes = max (common spelling bytes) (longest spellings bytes)

abbrev pub fixed_length_of : Wanted → List ℕ → ℕ
fixed_length_of (wanted.Operand nests) bytes = max (longest leaves bytes) (cond nests (longest openings bytes) 0)
fixed_length_of (wanted.Operator compared closes) bytes =
    max (longest joins bytes) (max (cond compared 0 (longest comparisons bytes)) (cond closes (common (codes ")") bytes) 0))
fixed_length_of wanted.Pattern bytes = 0
fixed_length_of wanted.FirstItem bytes = max (longest constants bytes) (common (codes "]") bytes)
fixed_length_of wanted.NextItem bytes = longest constants bytes
fixed_length_of wanted.AfterItem bytes = max (common (codes ",") bytes) (common (codes "]") bytes)
