-- What is answered of the first token of some bytes.
use Rattle.std.specs.Prelude.{◌≡◌, ℕ, ◌≤◌, List, length, slice_range, Option, Some, None}
use Rattle.line_splitter.specs.Cuts.{Cut, cut}
use Rattle.line_splitter.specs.declared.tokens.Token.{Token}
use Rattle.multiline.specs.Cutting.{Cutting}
use Rattle.multiline.specs.MultilineTokens.{first_cut}
use Rattle.multiline.specs.Tokens.{HasNoToken, BeginsWith}

-- the cut that a token says of the bytes
abbrev pub cut_of : List ℕ → Token → Cut
cut_of b token = cut (slice_range b token.from token.to) token.after

-- more bytes are needed to decide the first token
pub record NeedsMore (cutting : Cutting) (max : ℕ) (b : List ℕ) : Type 0 where
  pub none : first_cut cutting max b ≡ None
  pub ends : HasNoToken cutting max b

-- this is the first token
pub record IsFirstToken (cutting : Cutting) (max : ℕ) (b : List ℕ) (token : Token) : Type 0 where
  pub first : first_cut cutting max b ≡ Some (cut_of b token)
  pub from : token.from ≡ 0
  pub to : token.to ≤ token.after
  pub taken : 1 ≤ token.after
  pub after : token.after ≤ length b
  pub begins : BeginsWith cutting max b (cut_of b token)

abbrev pub IsNext : Cutting → ℕ → List ℕ → Option Token → Type 0
IsNext cutting max b None = NeedsMore cutting max b
IsNext cutting max b (Some token) = IsFirstToken cutting max b token
