-- The tokens of bytes, and those up to a bound.
use Rattle.std.specs.Prelude.{◌≡◌, ℕ, List, ◌++◌, map, sum_by}
use Rattle.line_splitter.specs.Cuts.{Cut}
use Rattle.standing.specs.Rules.{Rules}

-- how many bytes from the front some tokens use
abbrev pub used_by : List Cut → ℕ
used_by taken = sum_by (λ (c : Cut). c.used) taken

abbrev pub texts : List Cut → List (List ℕ)
texts taken = map (λ (c : Cut). c.text) taken

abbrev pub tokens_of : Rules → List ℕ → List (List ℕ)
tokens_of rules content = texts (rules.cuts content)

abbrev pub used : Rules → List ℕ → ℕ
used rules content = used_by (rules.cuts content)

-- The number is a bound of the bytes: some of their first tokens use exactly so many. These are the tokens up to it.
pub record UpTo (rules : Rules) (content : List ℕ) (bound : ℕ) (tokens : List (List ℕ)) : Type 0 where
  pub taken : List Cut
  pub behind : List Cut
  pub split : rules.cuts content ≡ taken ++ behind
  pub uses : used_by taken ≡ bound
  pub are : tokens ≡ texts taken

-- These tokens are cut out of so many bytes, one behind another, without a byte between two of them or behind the last one.
pub record AreCutOf (count : ℕ) (tokens : List (List ℕ)) : Type 0 where
  pub taken : List Cut
  pub are : tokens ≡ texts taken
  pub uses : used_by taken ≡ count
