-- The tokens of a rest: of bytes from which no more tokens come until more bytes do, and that are flushed all the same.
use Rattle.std.specs.Prelude.{◌≡◌, ◌≤◌, ◌∷◌, drop, ℕ, ◌-◌, List, length, take, slice_index, nat_lt, ◌==◌, if◌then◌else◌, Option, Some, None}
use Rattle.std.specs.Str.Lines.{strip_carriage_return}
use Rattle.line_splitter.specs.Cuts.{Cut, cut, cuts}
use Rattle.line_splitter.specs.LineTokens.{is_line_feed}

-- all bytes, less one LF at their end and one CR directly before it
unfoldable pub without_line_end : List ℕ → List ℕ
without_line_end b =
    if is_line_feed (slice_index b (length b - 1)) then strip_carriage_return (take (length b - 1) b) else b

-- No bytes have no token. Of more than max bytes the first max are one; else all are, without the end of the last line.
unfoldable pub rest_cut : ℕ → List ℕ → Option Cut
rest_cut max b =
    if nat_lt max (length b) then Some (cut (take max b) max)
    else (if length b == 0 then None else Some (cut (without_line_end b) (length b)))

-- all tokens of a rest, each with the bytes that it uses
abbrev pub rest_cuts : ℕ → List ℕ → List Cut
rest_cuts max b = cuts (rest_cut max) b

-- c is the first token of b, and those of the bytes past it follow
pub record BeginsRest (max : ℕ) (b : List ℕ) (c : Cut) : Type 0 where
  pub some_used : 1 ≤ c.used
  pub within : c.used ≤ length b
  pub cuts_follow : rest_cuts max b ≡ c ∷ rest_cuts max (drop c.used b)
