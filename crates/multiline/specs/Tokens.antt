-- All tokens of some bytes.
use Rattle.std.specs.Prelude.{◌≡◌, ℕ, ◌+◌, ◌≤◌, List, [], ◌∷◌, ◌++◌, length, drop}
use Rattle.line_splitter.specs.Cuts.{Cut, cuts, texts, used_by}
use Rattle.multiline.specs.Cutting.{Cutting}
use Rattle.multiline.specs.MultilineTokens.{first_cut}

-- all tokens of b, each with the bytes that it uses: the first, and then those of the rest
abbrev pub multiline_cuts : Cutting → ℕ → List ℕ → List Cut
multiline_cuts cutting max b = cuts (first_cut cutting max) b

-- the texts of all tokens of b
abbrev pub tokens : Cutting → ℕ → List ℕ → List (List ℕ)
tokens cutting max b = texts (multiline_cuts cutting max b)

-- how many bytes from the front of b they use
abbrev pub used : Cutting → ℕ → List ℕ → ℕ
used cutting max b = used_by (multiline_cuts cutting max b)

-- b has no token and none of its bytes is used
pub record HasNoToken (cutting : Cutting) (max : ℕ) (b : List ℕ) : Type 0 where
  pub no_cuts : multiline_cuts cutting max b ≡ []
  pub no_tokens : tokens cutting max b ≡ []
  pub none_used : used cutting max b ≡ 0

-- c is the first token of b, and the tokens of the bytes past it follow
pub record BeginsWith (cutting : Cutting) (max : ℕ) (b : List ℕ) (c : Cut) : Type 0 where
  pub some_used : 1 ≤ c.used
  pub within : c.used ≤ length b
  pub cuts_follow : multiline_cuts cutting max b ≡ c ∷ multiline_cuts cutting max (drop c.used b)
  pub tokens_follow : tokens cutting max b ≡ c.text ∷ tokens cutting max (drop c.used b)
  pub used_follow : used cutting max b ≡ c.used + used cutting max (drop c.used b)

-- More bytes behind b leave its tokens, which are the first ones, and what they use; then come the tokens of what b left
-- unused with those bytes.
pub record KeepsTokens (cutting : Cutting) (max : ℕ) (b more : List ℕ) : Type 0 where
  pub within : used cutting max b ≤ length b
  pub cuts_kept : multiline_cuts cutting max (b ++ more) ≡ multiline_cuts cutting max b ++ multiline_cuts cutting max (drop (used cutting max b) b ++ more)
  pub tokens_kept : tokens cutting max (b ++ more) ≡ tokens cutting max b ++ tokens cutting max (drop (used cutting max b) b ++ more)
  pub used_kept : used cutting max (b ++ more) ≡ used cutting max b + used cutting max (drop (used cutting max b) b ++ more)
  pub used_grows : used cutting max b ≤ used cutting max (b ++ more)
