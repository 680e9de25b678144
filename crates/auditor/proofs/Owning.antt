-- Only the lines of its own count for a row.
use Rattle.std.proofs.Common.{◌≡◌, ◌≢◌, inl, inr, ℕ, ◌==◌, List, [], ◌∷◌, refl, sym, ap, ◌∙◌, subst}
use Rattle.std.specs.Prelude.{All, flat_map}
use Rattle.std.proofs.lemmas.Bool.{cases_eq, cond-true, cond-false, eq-eqb, ne_eqb}
use Rattle.std.proofs.lemmas.List.Elements.{All-nil, All-cons, All-head, All-tail}
use Rattle.kept_lines.specs.Lines.{whole_lines, longer_first}
use Rattle.kept_lines.specs.OwnLines.{AreOf, none, taken, passed}
use Rattle.otlp_json.specs.IsOneLine.{IsOneLine}
use Rattle.standing.specs.Eras.{Eras}
use Rattle.standing.specs.Rows.{Row}
use Rattle.standing.specs.Rules.{Rules}
use Rattle.auditor.specs.RowHolds.{RowHolds}
use Rattle.auditor.specs.Verdicts.{IsVerdict}
use Rattle.auditor.specs.declared.Verdict.{Verdict}
use Rattle.auditor.specs.declared.Verdict.TheVariants.{Same, Differs}
use Rattle.auditor.proofs.Judging.{one_own}
use Rattle.auditor.proofs.Keeping.{one_first}

abbrev joined : List (List ℕ) → List ℕ
joined lines = flat_map (λ (line : List ℕ). line) lines

-- ---- whole lines are one line each

longer_one : (byte : ℕ) (lines : List (List ℕ)) → byte ≢ 10 → All IsOneLine lines → All IsOneLine (longer_first byte lines)
longer_one byte [] other all = All-nil IsOneLine
longer_one byte (line ∷ lines) other all =
    let one = All-head IsOneLine line lines all in
    All-cons IsOneLine (byte ∷ line) lines
    (record { content = byte ∷ one.content; ends = ap (λ (l : List ℕ). byte ∷ l) one.ends; no_other = All-cons (λ (b : ℕ). b ≢ 10) byte one.content other one.no_other })
    (All-tail IsOneLine line lines all)

all_one : (text : List ℕ) → All IsOneLine (whole_lines text)
all_one [] = All-nil IsOneLine
all_one (byte ∷ text) =
    elim (cases_eq byte 10) [
      | inl feed ↦
          subst (All IsOneLine) (sym (cond-true (byte == 10) ((byte ∷ []) ∷ whole_lines text) (longer_first byte (whole_lines text)) (eq-eqb byte 10 feed)))
          (All-cons IsOneLine (byte ∷ []) (whole_lines text) (record { content = []; ends = ap (λ b. b ∷ []) feed; no_other = All-nil (λ (b : ℕ). b ≢ 10) }) (all_one text))
      | inr other ↦
          subst (All IsOneLine) (sym (cond-false (byte == 10) ((byte ∷ []) ∷ whole_lines text) (longer_first byte (whole_lines text)) (ne_eqb byte 10 other)))
          (longer_one byte (whole_lines text) other (all_one text))
    ]

lines_back : (lines : List (List ℕ)) → All IsOneLine lines → whole_lines (joined lines) ≡ lines
lines_back [] all = refl
lines_back (line ∷ lines) all =
    one_first line (joined lines) (All-head IsOneLine line lines all) ∙ ap (λ (ls : List (List ℕ)). line ∷ ls) (lines_back lines (All-tail IsOneLine line lines all))

own_one : (id : ℕ) {lines own : List (List ℕ)} → AreOf id lines own → All IsOneLine lines → All IsOneLine own
own_one id none all = All-nil IsOneLine
own_one id (taken {line = line} {lines = lines} {own = own} is rest) all =
    All-cons IsOneLine line own (All-head IsOneLine line lines all) (own_one id rest (All-tail IsOneLine line lines all))
own_one id (passed {line = line} {lines = lines} isnt rest) all = own_one id rest (All-tail IsOneLine line lines all)

own_of : (id : ℕ) {lines own : List (List ℕ)} → AreOf id lines own → AreOf id own own
own_of id none = none
own_of id (taken is rest) = taken is (own_of id rest)
own_of id (passed isnt rest) = own_of id rest

-- the own lines alone have the same own lines
pub own_alone : (id : ℕ) (kept : List ℕ) (own : List (List ℕ)) → AreOf id (whole_lines kept) own → AreOf id (whole_lines (flat_map (λ (line : List ℕ). line) own)) own
own_alone id kept own are =
    subst (λ (ls : List (List ℕ)). AreOf id ls own) (sym (lines_back own (own_one id are (all_one kept)))) (own_of id are)

-- ---- the row

pub holds_by_own : (eras : Eras) (content : List ℕ) (row : Row) (kept other : List ℕ) (own : List (List ℕ)) → AreOf row.id (whole_lines kept) own → AreOf row.id (whole_lines other) own
    → RowHolds eras content row kept → RowHolds eras content row other
holds_by_own eras content row kept other own are again h = record {
  earlier = h.earlier;
  closed = h.closed;
  tokens = h.tokens;
  taken = h.taken;
  own = h.own;
  are_own = subst (λ (ls : List (List ℕ)). AreOf row.id (whole_lines other) ls) (one_own row.id are h.are_own) again;
  lines = h.lines;
  spelled = h.spelled;
  all_lines = h.all_lines;
  times = h.times;
  of_64_bits = h.of_64_bits;
}

pub verdict_by_own : (eras : Eras) (rules : List Rules) (content : List ℕ) (row : Row) (kept other : List ℕ) (own : List (List ℕ)) (verdict : Verdict)
    → AreOf row.id (whole_lines kept) own → AreOf row.id (whole_lines other) own → IsVerdict eras rules content row kept verdict → IsVerdict eras rules content row other verdict
verdict_by_own eras rules content row kept other own Same are again is = holds_by_own eras content row kept other own are again is
verdict_by_own eras rules content row kept other own (Differs number) are again is = (
  λ h. is.0 (holds_by_own eras content row other kept own again are h),
  (is.1.0, subst (λ (ls : List (List ℕ)). AreOf row.id (whole_lines other) ls) (one_own row.id are is.1.1) again, is.1.2),
)
