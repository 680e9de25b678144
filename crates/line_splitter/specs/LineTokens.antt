-- The tokens of lines. Each line is a token without its line end, LF or CR and LF; a line longer
-- than `max` bytes is cut after each `max` bytes.
use Rattle.std.specs.Prelude.{◌≡◌, ℕ, ◌+◌, ◌≤◌, nat_lt, ◌==◌, if◌then◌else◌, Bool, List, [], ◌∷◌, ◌++◌, length, take, drop, map, sum_by, Option, Some, None}
use Rattle.std.specs.List.{position_or_len}
use Rattle.std.specs.Str.Lines.{strip_carriage_return}
use Rattle.line_splitter.specs.Cuts.{Cut, cut, cuts}

-- the byte is LF
abbrev pub is_line_feed : ℕ → Bool
is_line_feed byte = byte == 10

-- the place of the first LF among the first max + 1 bytes; where there is none, how many these are
unfoldable pub line_end : ℕ → List ℕ → ℕ
line_end max b = position_or_len is_line_feed (take (max + 1) b)

-- If an LF stands among the first max + 1 bytes, the token is the bytes before it, less one CR
-- directly before the LF, and the LF is used too. Else, if b has more than max bytes, the token is
-- its first max bytes. Else there is none.
unfoldable pub first_cut : ℕ → List ℕ → Option Cut
first_cut max b =
    if nat_lt (line_end max b) (length (take (max + 1) b))
    then Some (cut (strip_carriage_return (take (line_end max b) b)) (line_end max b + 1))
    else (if nat_lt max (length b) then Some (cut (take max b) max) else None)

-- all tokens of b, each with the bytes that it uses: the first, and then those of the rest
abbrev pub line_cuts : ℕ → List ℕ → List Cut
line_cuts max b = cuts (first_cut max) b

-- the texts of all tokens of b
unfoldable pub tokens : ℕ → List ℕ → List (List ℕ)
tokens max b = map (λ c. c.text) (line_cuts max b)

-- how many bytes from the front of b they use
unfoldable pub used : ℕ → List ℕ → ℕ
used max b = sum_by (λ c. c.used) (line_cuts max b)

-- b has no token and none of its bytes is used
pub record HasNoToken (max : ℕ) (b : List ℕ) : Type 0 where
  pub no_cuts : line_cuts max b ≡ []
  pub no_tokens : tokens max b ≡ []
  pub none_used : used max b ≡ 0

-- c is the first token of b, and the tokens of the bytes past it follow
pub record BeginsWith (max : ℕ) (b : List ℕ) (c : Cut) : Type 0 where
  pub some_used : 1 ≤ c.used
  pub within : c.used ≤ length b
  pub cuts_follow : line_cuts max b ≡ c ∷ line_cuts max (drop c.used b)
  pub tokens_follow : tokens max b ≡ c.text ∷ tokens max (drop c.used b)
  pub used_follow : used max b ≡ c.used + used max (drop c.used b)

-- More bytes behind b leave its tokens, which are the first ones, and what they use; then come the
-- tokens of what b left unused with those bytes.
pub record KeepsTokens (max : ℕ) (b more : List ℕ) : Type 0 where
  pub within : used max b ≤ length b
  pub cuts_kept : line_cuts max (b ++ more) ≡ line_cuts max b ++ line_cuts max (drop (used max b) b ++ more)
  pub tokens_kept : tokens max (b ++ more) ≡ tokens max b ++ tokens max (drop (used max b) b ++ more)
  pub used_kept : used max (b ++ more) ≡ used max b + used max (drop (used max b) b ++ more)
  pub used_grows : used max b ≤ used max (b ++ more)
