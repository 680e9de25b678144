-- The line with which an output is too long.
use Rattle.std.specs.Prelude.{◌≡◌, ℕ, ◌+◌, ◌<◌, ◌≤◌, List, [], ◌∷◌, ◌++◌, length, flat_map}
use Rattle.otlp_json.specs.OutputLine.{output_line}
use Rattle.standing.specs.Marks.{Mark}

abbrev pub line_of : Mark → List ℕ
line_of mark = output_line mark.id mark.number mark.observed mark.entry

abbrev pub lines_text : List Mark → List ℕ
lines_text marks = flat_map line_of marks

-- An output that ends at this place and may have so many bytes would have that size.
pub record Overflow : Type 0 where
  pub limit : ℕ
  pub end : ℕ
  pub size : ℕ

abbrev pub overflow : ℕ → ℕ → ℕ → Overflow
overflow limit end size = record { limit = limit; end = end; size = size }

-- With all lines up to one of these the output, which ends at this place, has this length, which is more than the limit;
-- without that one it isn't.
pub record Crosses (limit end : ℕ) (marks : List Mark) (size : ℕ) : Type 0 where
  pub front : List Mark
  pub last : Mark
  pub back : List Mark
  pub split : marks ≡ front ++ last ∷ back
  pub within_before : end + length (lines_text front) ≤ limit
  pub size_then : size ≡ end + length (lines_text (front ++ last ∷ []))
  pub too_much : limit < size
