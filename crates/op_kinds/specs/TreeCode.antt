-- An expression's tree as a list of tokens, which gives the tree back: what tells trees apart in a proof.
use Rattle.std.specs.Prelude.{◌≡◌, ◌⊎◌, ℕ, zero, suc, List, [], ◌∷◌, refl}
use Rattle.std.specs.Coded.{Coded, code_by, coded_ℕ, coded_list, coded×, coded⊎}
use base.Stored.{coded_unit}
use mathlib.Core.Logic.{inl, inr}
use mathlib.Core.Path.{ap, ◌∙◌}
use Rattle.entry_model.specs.Code.{datum_code}
use Rattle.entry_model.specs.Datum.{Datum, null}
use Rattle.expr_lang.specs.Tree.{Tree, constant, path, severity_number, severity_text, negation, conjunction, disjunction, comparison, matching}
use Rattle.expr_lang.specs.declared.token.Comparison.{Comparison}
use Rattle.expr_lang.specs.declared.token.Comparison.TheVariants.{Equal, NotEqual, Less, LessOrEqual, Greater, GreaterOrEqual, Contains, StartsWith, EndsWith, In}
use Rattle.field_paths.specs.Place.{Place}
use Rattle.op_kinds.specs.PlaceCode.{place_code}

-- ---- comparisons

abbrev pub comparison_number : Comparison → ℕ
comparison_number Equal = 0
comparison_number NotEqual = 1
comparison_number Less = 2
comparison_number LessOrEqual = 3
comparison_number Greater = 4
comparison_number GreaterOrEqual = 5
comparison_number Contains = 6
comparison_number StartsWith = 7
comparison_number EndsWith = 8
comparison_number In = 9

abbrev pub nth : List Comparison → ℕ → Comparison
nth [] n = In
nth (c ∷ cs) zero = c
nth (c ∷ cs) (suc n) = nth cs n

abbrev pub numbered_comparison : ℕ → Comparison
numbered_comparison = nth (Equal ∷ NotEqual ∷ Less ∷ LessOrEqual ∷ Greater ∷ GreaterOrEqual ∷ Contains ∷ StartsWith ∷ EndsWith ∷ [])

pub comparison_back : (c : Comparison) → numbered_comparison (comparison_number c) ≡ c
comparison_back Equal = refl
comparison_back NotEqual = refl
comparison_back Less = refl
comparison_back LessOrEqual = refl
comparison_back Greater = refl
comparison_back GreaterOrEqual = refl
comparison_back Contains = refl
comparison_back StartsWith = refl
comparison_back EndsWith = refl
comparison_back In = refl

abbrev pub comparison_code : Coded Comparison
comparison_code = code_by ℕ coded_ℕ comparison_number numbered_comparison comparison_back

-- ---- tokens

pub data Token : Type 0 where
  a_constant : Datum → Token
  a_path : Place → Token
  a_severity_number : Token
  a_severity_text : Token
  a_negation : ℕ → Token
  a_conjunction : ℕ → Token
  a_disjunction : ℕ → Token
  a_comparison : Comparison → ℕ → Token
  a_matching : ℕ → List ℕ → Token

abbrev pub Cases : Type 0
Cases = (Datum ⊎ Place) ⊎ (Unit {0} ⊎ Unit {0}) ⊎ (ℕ ⊎ (ℕ ⊎ ℕ)) ⊎ (Comparison × ℕ) ⊎ (ℕ × List ℕ)

abbrev pub cases : Token → Cases
cases (a_constant value) = inl (inl value)
cases (a_path place) = inl (inr place)
cases a_severity_number = inr (inl (inl tt))
cases a_severity_text = inr (inl (inr tt))
cases (a_negation at) = inr (inr (inl (inl at)))
cases (a_conjunction at) = inr (inr (inl (inr (inl at))))
cases (a_disjunction at) = inr (inr (inl (inr (inr at))))
cases (a_comparison compared at) = inr (inr (inr (inl (compared, at))))
cases (a_matching at pattern) = inr (inr (inr (inr (at, pattern))))

abbrev pub token : Cases → Token
token (inl (inl value)) = a_constant value
token (inl (inr place)) = a_path place
token (inr (inl (inl _))) = a_severity_number
token (inr (inl (inr _))) = a_severity_text
token (inr (inr (inl (inl at)))) = a_negation at
token (inr (inr (inl (inr (inl at))))) = a_conjunction at
token (inr (inr (inl (inr (inr at))))) = a_disjunction at
token (inr (inr (inr (inl p)))) = a_comparison p.0 p.1
token (inr (inr (inr (inr p)))) = a_matching p.0 p.1

pub token_cases : (t : Token) → token (cases t) ≡ t
token_cases (a_constant value) = refl
token_cases (a_path place) = refl
token_cases a_severity_number = refl
token_cases a_severity_text = refl
token_cases (a_negation at) = refl
token_cases (a_conjunction at) = refl
token_cases (a_disjunction at) = refl
token_cases (a_comparison compared at) = refl
token_cases (a_matching at pattern) = refl

abbrev pub token_code : Coded Token
token_code = code_by Cases
    (coded⊎ (coded⊎ datum_code place_code) (coded⊎ (coded⊎ coded_unit coded_unit)
    (coded⊎ (coded⊎ coded_ℕ (coded⊎ coded_ℕ coded_ℕ)) (coded⊎ (coded× comparison_code coded_ℕ) (coded× coded_ℕ (coded_list coded_ℕ))))))
    cases token token_cases

-- ---- what a tree spells, in front of other tokens

abbrev pub spell : Tree → List Token → List Token
spell (constant value) rest = a_constant value ∷ rest
spell (path place) rest = a_path place ∷ rest
spell severity_number rest = a_severity_number ∷ rest
spell severity_text rest = a_severity_text ∷ rest
spell (negation at operand) rest = a_negation at ∷ spell operand rest
spell (conjunction at left right) rest = a_conjunction at ∷ spell left (spell right rest)
spell (disjunction at left right) rest = a_disjunction at ∷ spell left (spell right rest)
spell (comparison compared at left right) rest = a_comparison compared at ∷ spell left (spell right rest)
spell (matching at operand pattern) rest = a_matching at pattern ∷ spell operand rest

-- ---- what tokens stand for, read from the last

abbrev pub first_tree : List Tree → Tree
first_tree [] = constant null
first_tree (tree ∷ trees) = tree

abbrev pub other_trees : List Tree → List Tree
other_trees [] = []
other_trees (tree ∷ trees) = trees

abbrev pub take_token : Token → List Tree → List Tree
take_token (a_constant value) trees = constant value ∷ trees
take_token (a_path place) trees = path place ∷ trees
take_token a_severity_number trees = severity_number ∷ trees
take_token a_severity_text trees = severity_text ∷ trees
take_token (a_negation at) trees = negation at (first_tree trees) ∷ other_trees trees
take_token (a_conjunction at) trees = conjunction at (first_tree trees) (first_tree (other_trees trees)) ∷ other_trees (other_trees trees)
take_token (a_disjunction at) trees = disjunction at (first_tree trees) (first_tree (other_trees trees)) ∷ other_trees (other_trees trees)
take_token (a_comparison compared at) trees = comparison compared at (first_tree trees) (first_tree (other_trees trees)) ∷ other_trees (other_trees trees)
take_token (a_matching at pattern) trees = matching at (first_tree trees) pattern ∷ other_trees trees

abbrev pub trees_of : List Token → List Tree
trees_of [] = []
trees_of (t ∷ ts) = take_token t (trees_of ts)

pub spelled : (tree : Tree) (rest : List Token) → trees_of (spell tree rest) ≡ tree ∷ trees_of rest
spelled (constant value) rest = refl
spelled (path place) rest = refl
spelled severity_number rest = refl
spelled severity_text rest = refl
spelled (negation at operand) rest = ap (take_token (a_negation at)) (spelled operand rest)
spelled (conjunction at left right) rest = ap (take_token (a_conjunction at)) (spelled left (spell right rest) ∙ ap (λ trees. left ∷ trees) (spelled right rest))
spelled (disjunction at left right) rest = ap (take_token (a_disjunction at)) (spelled left (spell right rest) ∙ ap (λ trees. left ∷ trees) (spelled right rest))
spelled (comparison compared at left right) rest = ap (take_token (a_comparison compared at)) (spelled left (spell right rest) ∙ ap (λ trees. left ∷ trees) (spelled right rest))
spelled (matching at operand pattern) rest = ap (take_token (a_matching at pattern)) (spelled operand rest)

abbrev pub tree_code : Coded Tree
tree_code = code_by (List Token) (coded_list token_code)
    (λ tree. spell tree []) (λ tokens. first_tree (trees_of tokens)) (λ tree. ap first_tree (spelled tree []))
