-- Lines and the limit of the output.
use Rattle.std.proofs.Common.{◌≡◌, ◌≢◌, ◌⊎◌, ℕ, ◌+◌, ◌<◌, ◌≤◌, List, [], ◌∷◌, length, refl, arith, inl, inr}
use Rattle.std.specs.Prelude.{max}
use Rattle.std.proofs.lemmas.List.{length-append}
use Rattle.file_pass.specs.Full.{Crosses, line_of, lines_text}
use Rattle.poll_core.specs.Overflows.{FirstPast}
use Rattle.standing.specs.Marks.{Mark}

module _ (some : (mark : Mark) → 0 < length (line_of mark)) where
  pub lines_some : (first : Mark) (marks : List Mark) → 0 < length (lines_text (first ∷ marks))
  lines_some first marks = omega (arith, some first, length-append (line_of first) (lines_text marks))

  -- no text has no lines
  pub no_lines : (marks : List Mark) → length (lines_text marks) ≡ 0 → marks ≡ []
  no_lines [] none = refl
  no_lines (first ∷ marks) none = absurd (omega (arith, none, lines_some first marks))

  -- an output that got longer is within its own limit
  pub within_own : (limit kept end : ℕ) (added : List Mark) → end ≡ kept + length (lines_text added) → end ≤ max limit kept → added ≢ [] → end ≤ limit
  within_own limit kept end [] end_is within some_added = absurd (some_added refl)
  within_own limit kept end (first ∷ marks) end_is within some_added = omega (arith, end_is, within, lines_some first marks)

  pub first_past : (limit kept : ℕ) (marks : List Mark) (full : ℕ) → Crosses (max limit kept) kept marks full → FirstPast limit kept marks full
  first_past limit kept marks full crosses = record {
    front = crosses.front;
    last = crosses.last;
    back = crosses.back;
    split = crosses.split;
    before = before crosses.front crosses.within_before;
    size_then = crosses.size_then;
    too_much = omega (arith, crosses.too_much);
  }
    where
      before : (front : List Mark) → kept + length (lines_text front) ≤ max limit kept → (front ≡ []) ⊎ (kept + length (lines_text front) ≤ limit)
      before [] within = inl refl
      before (first ∷ marks) within = inr (omega (arith, within, lines_some first marks))
