-- The lines of numbered records, one after another.
use Rattle.std.proofs.Common.{◌≡◌, ℕ, ◌+◌, List, [], ◌∷◌, ◌++◌, ◌∙◌, Option, refl, sym, ap, length, arith}
use Rattle.std.proofs.lemmas.List.{append_assoc}
use Rattle.entry_model.specs.LogRecord.{LogRecord}
use Rattle.otlp_json.specs.OutputLine.{output_line}
use Rattle.otlp_json.specs.OutputLines.{output_lines}

pub lines_none : (id number : ℕ) (observed : Option ℕ) → output_lines id number observed [] ≡ []
unfolding output_lines
lines_none id number observed = refl

pub lines_more : (id number : ℕ) (observed : Option ℕ) (first : LogRecord) (rest : List LogRecord)
    → output_lines id number observed (first ∷ rest) ≡ output_line id number observed first ++ output_lines id (number + 1) observed rest
unfolding output_lines
lines_more id number observed first rest = refl

pub lines_appended : (id number : ℕ) (observed : Option ℕ) (front back : List LogRecord)
    → output_lines id number observed (front ++ back) ≡ output_lines id number observed front ++ output_lines id (number + length front) observed back
lines_appended id number observed [] back =
    let same : number ≡ number + 0 = omega arith in
    rw (lines_none id number observed) (ap (λ n. output_lines id n observed back) same)
lines_appended id number observed (first ∷ rest) back =
    let all = length (first ∷ rest) in
    let count : number + 1 + length rest ≡ number + all = omega arith in
    lines_more id number observed first (rest ++ back)
    ∙ ap (λ lines. output_line id number observed first ++ lines) (lines_appended id (number + 1) observed rest back ∙ ap (λ n. output_lines id (number + 1) observed rest ++ output_lines id n observed back) count)
    ∙ sym (append_assoc (output_line id number observed first) (output_lines id (number + 1) observed rest) (output_lines id (number + all) observed back))
    ∙ ap (λ lines. lines ++ output_lines id (number + all) observed back) (sym (lines_more id number observed first rest))
