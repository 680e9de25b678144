-- Bytes that are cut into tokens from the front, by any rule for the first token.
use Rattle.std.specs.Prelude.{◌≡◌, ℕ, zero, suc, ◌≤◌, List, [], ◌∷◌, ◌++◌, length, drop, map, sum_by, Option, Some, IfSome}
use Rattle.std.specs.Option.{option_map_or}

-- the text of a token, and how many bytes from the front it uses, its line end among them
pub record Cut : Type 0 where
  pub text : List ℕ
  pub used : ℕ

-- the cut with this text that uses this many bytes
abbrev pub cut : List ℕ → ℕ → Cut
cut text used = record { text = text; used = used }

-- at most n cuts of b: the one that the rule gives first, and then those of the bytes past it
unfoldable pub cuts_within : (List ℕ → Option Cut) → ℕ → List ℕ → List Cut
cuts_within first zero b = []
cuts_within first (suc n) b = option_map_or (λ c. c ∷ cuts_within first n (drop c.used b)) (first b) []

-- all cuts of b: each uses a byte or more, so there are no more of them than bytes
unfoldable pub cuts : (List ℕ → Option Cut) → List ℕ → List Cut
cuts first b = cuts_within first (length b) b

-- the tokens of some cuts
abbrev pub texts : List Cut → List (List ℕ)
texts all = map (λ c. c.text) all

-- how many bytes from the front they use
abbrev pub used_by : List Cut → ℕ
used_by all = sum_by (λ (c : Cut). c.used) all

-- The rule uses at least one of the bytes and at most all, and more bytes behind them don't change
-- its cut.
pub record IsCutRule (first : List ℕ → Option Cut) : Type 0 where
  pub some_used : (b : List ℕ) → IfSome (first b) (λ c. 1 ≤ c.used)
  pub within : (b : List ℕ) → IfSome (first b) (λ c. c.used ≤ length b)
  pub lasting : (b more : List ℕ) → IfSome (first b) (λ c. first (b ++ more) ≡ Some c)

-- The first cuts of b that together use n bytes: n is a bound of b, and these are the cuts up to it.
pub record CutsUpTo (first : List ℕ → Option Cut) (b : List ℕ) (n : ℕ) (taken : List Cut) : Type 0 where
  pub behind : List Cut
  pub split : cuts first b ≡ taken ++ behind
  pub uses : used_by taken ≡ n
