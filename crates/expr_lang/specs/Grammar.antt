-- The grammar of expressions over their words.
use Rattle.std.specs.Prelude.{◌≡◌, ℕ, suc, ◌≤◌, List, [], ◌∷◌, ◌++◌, length, Option, None, Some, IsTrue, ⊤}
use Rattle.entry_model.specs.Datum.{Datum, null, boolean, int, text, list, items_of}
use Rattle.expr_lang.specs.declared.token.Comparison.{Comparison}
use Rattle.expr_lang.specs.declared.token.Token.{Token}
use Rattle.expr_lang.specs.declared.token.Token.TheVariants as token
use Rattle.expr_lang.specs.Patterns.{is_pattern}
use Rattle.expr_lang.specs.Row.{Placed, IsRow}
use Rattle.expr_lang.specs.Tree.{Tree, constant, path, severity_number, severity_text, negation, conjunction, disjunction, comparison, matching}

abbrev pub constant_of : Token → Option Datum
constant_of token.Null = Some null
constant_of (token.Bool b) = Some (boolean b)
constant_of (token.Int z) = Some (int z)
constant_of (token.Text bytes) = Some (text bytes)
constant_of _ = None

-- the tree of one word
abbrev pub leaf_of : Token → Option Tree
leaf_of token.Null = Some (constant null)
leaf_of (token.Bool b) = Some (constant (boolean b))
leaf_of (token.Int z) = Some (constant (int z))
leaf_of (token.Text bytes) = Some (constant (text bytes))
leaf_of (token.Path place) = Some (path place)
leaf_of token.SeverityNumber = Some severity_number
leaf_of token.SeverityText = Some severity_text
leaf_of _ = None

-- constants with a comma between two
pub data SpellsItems : List Placed → List Datum → Type 0 where
  last : {word : Token} {at : ℕ} {value : Datum} → constant_of word ≡ Some value → SpellsItems ((word, at) ∷ []) (value ∷ [])
  next : {word : Token} {at comma : ℕ} {value : Datum} {row : List Placed} {values : List Datum} → constant_of word ≡ Some value
      → SpellsItems row values → SpellsItems ((word, at) ∷ (token.Comma, comma) ∷ row) (value ∷ values)

-- from the tightest to the loosest
pub data Level : Type 0 where
  Primary : Level
  Unary : Level
  Compared : Level
  Conjoined : Level
  Disjoined : Level

-- the words spell the tree, which is of the level, and at most so many of groups, lists and negations are open at once
pub data Spells : ℕ → Level → List Placed → Tree → Type 0 where
  leaf : {depth : ℕ} {word : Token} {at : ℕ} {tree : Tree} → leaf_of word ≡ Some tree → Spells depth Primary ((word, at) ∷ []) tree
  no_items : {depth at : ℕ} {end : ℕ} → Spells (suc depth) Primary ((token.OpenList, at) ∷ (token.CloseList, end) ∷ []) (constant (list (items_of [])))
  items : {depth at : ℕ} (end : ℕ) {row : List Placed} {values : List Datum} → SpellsItems row values
      → Spells (suc depth) Primary ((token.OpenList, at) ∷ (row ++ (token.CloseList, end) ∷ [])) (constant (list (items_of values)))
  group : {depth at : ℕ} (end : ℕ) {row : List Placed} {tree : Tree} → Spells depth Disjoined row tree
      → Spells (suc depth) Primary ((token.OpenGroup, at) ∷ (row ++ (token.CloseGroup, end) ∷ [])) tree
  primary : {depth : ℕ} {row : List Placed} {tree : Tree} → Spells depth Primary row tree → Spells depth Unary row tree
  negated : {depth at : ℕ} {row : List Placed} {tree : Tree} → Spells depth Unary row tree
      → Spells (suc depth) Unary ((token.Not, at) ∷ row) (negation at tree)
  unary : {depth : ℕ} {row : List Placed} {tree : Tree} → Spells depth Unary row tree → Spells depth Compared row tree
  compares : {depth : ℕ} (at : ℕ) (operator : Comparison) {front back : List Placed} {left right : Tree}
      → Spells depth Unary front left → Spells depth Unary back right
      → Spells depth Compared (front ++ (token.Compares operator, at) ∷ back) (comparison operator at left right)
  matches : {depth : ℕ} (at place : ℕ) (pattern : List ℕ) {front : List Placed} {left : Tree} → Spells depth Unary front left
      → Spells depth Compared (front ++ (token.Matches, at) ∷ (token.Text pattern, place) ∷ []) (matching at left pattern)
  compared : {depth : ℕ} {row : List Placed} {tree : Tree} → Spells depth Compared row tree → Spells depth Conjoined row tree
  and : {depth : ℕ} (at : ℕ) {front back : List Placed} {left right : Tree}
      → Spells depth Conjoined front left → Spells depth Compared back right
      → Spells depth Conjoined (front ++ (token.And, at) ∷ back) (conjunction at left right)
  conjoined : {depth : ℕ} {row : List Placed} {tree : Tree} → Spells depth Conjoined row tree → Spells depth Disjoined row tree
  or : {depth : ℕ} (at : ℕ) {front back : List Placed} {left right : Tree}
      → Spells depth Disjoined front left → Spells depth Conjoined back right
      → Spells depth Disjoined (front ++ (token.Or, at) ∷ back) (disjunction at left right)

-- each pattern in the tree is one
abbrev pub HavePatterns : Tree → Type 0
HavePatterns (constant value) = ⊤
HavePatterns (path place) = ⊤
HavePatterns severity_number = ⊤
HavePatterns severity_text = ⊤
HavePatterns (negation at operand) = HavePatterns operand
HavePatterns (conjunction at left right) = HavePatterns left × HavePatterns right
HavePatterns (disjunction at left right) = HavePatterns left × HavePatterns right
HavePatterns (comparison operator at left right) = HavePatterns left × HavePatterns right
HavePatterns (matching at operand pattern) = HavePatterns operand × IsTrue (is_pattern pattern)

-- the text is of the grammar, and this is its tree
pub record IsExpression (text : List ℕ) (tree : Tree) : Type 0 where
  pub words : List Placed
  pub row : IsRow text 0 words
  pub spells : Spells 32 Disjoined words tree
  pub patterns : HavePatterns tree
  pub short : length text ≤ 4096
