-- The first token of some bytes, by any rule.
use Rattle.std.specs.Prelude.{◌≡◌, ℕ, ◌≤◌, List, [], ◌∷◌, length, drop, Option, None, Some}
use Rattle.line_splitter.specs.Cuts.{Cut, cuts}
use Rattle.line_splitter.specs.declared.tokens.Token.{Token}
use Rattle.multiline.specs.NextToken.{cut_of}

-- c is the first cut of b, and the cuts of the bytes past it follow
pub record BeginsWith (first : List ℕ → Option Cut) (b : List ℕ) (c : Cut) : Type 0 where
  pub some_used : 1 ≤ c.used
  pub within : c.used ≤ length b
  pub cuts_follow : cuts first b ≡ c ∷ cuts first (drop c.used b)

pub record IsFirstToken (first : List ℕ → Option Cut) (b : List ℕ) (token : Token) : Type 0 where
  pub from : token.from ≡ 0
  pub to : token.to ≤ token.after
  pub begins : BeginsWith first b (cut_of b token)

-- the first token, or none where there is none at all
abbrev pub IsNext : (List ℕ → Option Cut) → List ℕ → Option Token → Type 0
IsNext first b None = cuts first b ≡ []
IsNext first b (Some token) = IsFirstToken first b token
