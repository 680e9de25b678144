-- What stands holds: the lines that are kept of a row are those among all lines that end as its lines do.
use Rattle.std.proofs.Common.{◌≡◌, ◌≢◌, inl, inr, ℕ, zero, suc, ◌+◌, ◌<◌, ◌≤◌, ◌^◌, ◌==◌, List, [], ◌∷◌, ◌++◌, Bool, true, Some, None, length, map, take, get_or, refl, sym, ap, ◌∙◌, subst, arith, eq-eqb, ne_eqb, length-append}
use Rattle.std.specs.Prelude.{Option, All, IfSome, filter, flat_map, slice_get}
use Rattle.std.proofs.lemmas.Bool.{cases_Bool, cases_eq, cond-true, cond-false}
use Rattle.std.proofs.lemmas.List.Elements.{All-nil, All-cons, All-head, All-tail, All-weaker, All-filter}
use Rattle.entry_model.specs.LogRecord.{LogRecord}
use Rattle.kept_lines.specs.Lines.{whole_lines, longer_first}
use Rattle.kept_lines.specs.OwnLines.{IsOf, AreOf, none, taken, passed}
use Rattle.otlp_json.proofs.NoLf.{one_line}
use Rattle.otlp_json.proofs.SplitsOfTails.{tail_splits}
use Rattle.otlp_json.specs.IsOf64Bits.{IsTime}
use Rattle.otlp_json.specs.IsOneLine.{IsOneLine}
use Rattle.otlp_json.specs.OutputLine.{output_line, line_front, line_tail}
use Rattle.outside.specs.World.{History, bytes}
use Rattle.pipeline.specs.declared.Pipeline.{Pipeline}
use Rattle.standing.proofs.EraLemmas as era
use Rattle.standing.specs.Closed.{all_made, entries_in}
use Rattle.standing.specs.Eras.{Eras, AreEras, last_era}
use Rattle.standing.specs.Marks.{Mark, of_id, numbered, untimed}
use Rattle.standing.specs.Rows.{Row, Checkpoint, IsRowAt}
use Rattle.standing.specs.Stands.{LinesStand, CheckpointStands}
use Rattle.auditor.specs.Inner.Compared.{mark_line}
use Rattle.auditor.specs.RowHolds.{AreErasFrom, RowHolds}
use Rattle.auditor.proofs.Piping.{rules_from, last_line}

-- ---- lines of an output

line_first : (content rest : List ℕ) → All (λ (byte : ℕ). byte ≢ 10) content → whole_lines ((content ++ 10 ∷ []) ++ rest) ≡ (content ++ 10 ∷ []) ∷ whole_lines rest
line_first [] rest others = refl
line_first (byte ∷ content) rest others =
    let text = (content ++ 10 ∷ []) ++ rest in
    cond-false (byte == 10) ((byte ∷ []) ∷ whole_lines text) (longer_first byte (whole_lines text)) (ne_eqb byte 10 (All-head (λ (b : ℕ). b ≢ 10) byte content others))
    ∙ ap (longer_first byte) (line_first content rest (All-tail (λ (b : ℕ). b ≢ 10) byte content others))

pub one_first : (line rest : List ℕ) → IsOneLine line → whole_lines (line ++ rest) ≡ line ∷ whole_lines rest
one_first line rest one =
    ap (λ (l : List ℕ). whole_lines (l ++ rest)) one.ends ∙ line_first one.content rest one.no_other ∙ ap (λ (l : List ℕ). l ∷ whole_lines rest) (sym one.ends)

lines_whole : (marks : List Mark) → whole_lines (flat_map mark_line marks) ≡ map mark_line marks
lines_whole [] = refl
lines_whole (mark ∷ marks) =
    one_first (mark_line mark) (flat_map mark_line marks) (one_line mark.id mark.number mark.observed mark.entry) ∙ ap (λ (ls : List (List ℕ)). mark_line mark ∷ ls) (lines_whole marks)

marks_short : (marks : List Mark) → length marks ≤ length (flat_map mark_line marks)
marks_short [] = omega arith
marks_short (mark ∷ marks) =
    let one = one_line mark.id mark.number mark.observed mark.entry in
    omega (arith, marks_short marks, length-append (mark_line mark) (flat_map mark_line marks), ap length one.ends, length-append one.content (10 ∷ []))

-- ---- the lines of one row

abbrev Small : Mark → Type 0
Small mark = (mark.id < 2 ^ 64) × (mark.number < 2 ^ 64)

line_parts : (mark : Mark) → mark_line mark ≡ line_front mark.observed mark.entry ++ line_tail mark.id mark.number
unfolding output_line
line_parts mark = refl

own_lines : (id : ℕ) → id < 2 ^ 64 → (marks : List Mark) → All Small marks → AreOf id (map mark_line marks) (map mark_line (of_id id marks))
own_lines id few [] small = none
own_lines id few (mark ∷ marks) small =
    let rest = own_lines id few marks (All-tail Small mark marks small) in
    let first = All-head Small mark marks small in
    let front = line_front mark.observed mark.entry in
    elim (cases_eq mark.id id) [
      | inl same ↦
          let is : IsOf id (mark_line mark) =
          record { front = front; number = mark.number; small = first.1; ends = line_parts mark ∙ ap (λ i. front ++ line_tail i mark.number) same } in
          let own : of_id id (mark ∷ marks) ≡ mark ∷ of_id id marks = cond-true (mark.id == id) (mark ∷ of_id id marks) (of_id id marks) (eq-eqb mark.id id same) in
          subst (λ (ms : List Mark). AreOf id (map mark_line (mark ∷ marks)) (map mark_line ms)) (sym own) (taken is rest)
      | inr other ↦
          let isnt : IsOf id (mark_line mark) → ⊥ = λ of.
          other (tail_splits mark.id mark.number id of.number front of.front first.0 first.1 few of.small (sym (line_parts mark) ∙ of.ends)).0 in
          let own : of_id id (mark ∷ marks) ≡ of_id id marks = cond-false (mark.id == id) (mark ∷ of_id id marks) (of_id id marks) (ne_eqb mark.id id other) in
          subst (λ (ms : List Mark). AreOf id (map mark_line (mark ∷ marks)) (map mark_line ms)) (sym own) (passed isnt rest)
    ]

-- ---- numbers of 64 bits

numbers_below : (lines : List Mark) (id n : ℕ) (entries : List LogRecord) → untimed lines ≡ numbered id n None entries → All (λ (m : Mark). m.number < n + length lines) lines
numbers_below [] id n entries same = All-nil (λ (m : Mark). m.number < n + 0)
numbers_below (mark ∷ marks) id n [] same = absurd (cc same)
numbers_below (mark ∷ marks) id n (entry ∷ entries) same =
    let first : record mark { observed = None } ≡ record { id = id; number = n; observed = None; entry = entry } = cc same in
    let number : mark.number ≡ n = ap (λ (m : Mark). m.number) first in
    let rest = numbers_below marks id (n + 1) entries (cc same) in
    All-cons (λ (m : Mark). m.number < n + length (mark ∷ marks)) mark marks (omega (arith, number))
    (All-weaker (λ (m : Mark). m.number < n + 1 + length marks) (λ (m : Mark). m.number < n + length (mark ∷ marks)) (λ m below. omega (arith, below)) marks rest)

filter_tells : (P : Mark → Type 0) (p : Mark → Bool) (marks : List Mark) (k : ℕ) (d : Mark) → k < length marks → p (get_or marks k d) ≡ true → All P (filter p marks) → P (get_or marks k d)
filter_tells P p [] k d less passes all = absurd (omega (arith, less))
filter_tells P p (mark ∷ marks) zero d less passes all =
    All-head P mark (filter p marks) (subst (All P) (cond-true (p mark) (mark ∷ filter p marks) (filter p marks) passes) all)
filter_tells P p (mark ∷ marks) (suc k) d less passes all =
    elim (cases_Bool (p mark)) [
      | inl t ↦ filter_tells P p marks k d (omega (arith, less)) passes (All-tail P mark (filter p marks) (subst (All P) (cond-true (p mark) (mark ∷ filter p marks) (filter p marks) t) all))
      | inr f ↦ filter_tells P p marks k d (omega (arith, less)) passes (subst (All P) (cond-false (p mark) (mark ∷ filter p marks) (filter p marks) f) all)
    ]

filter_short : (p : Mark → Bool) (marks : List Mark) → length (filter p marks) ≤ length marks
filter_short p [] = omega arith
filter_short p (mark ∷ marks) =
    elim (cases_Bool (p mark)) [
      | inl t ↦ omega (arith, filter_short p marks, ap length (cond-true (p mark) (mark ∷ filter p marks) (filter p marks) t))
      | inr f ↦ omega (arith, filter_short p marks, ap length (cond-false (p mark) (mark ∷ filter p marks) (filter p marks) f))
    ]

at_within : {A : Type 0} (xs : List A) (k : ℕ) (x : A) → slice_get xs k ≡ Some x → k < length xs
at_within {A} [] k x there = absurd (let never : ◌≡◌ {A = Option A} None (Some x) = there in cc)
at_within (y ∷ xs) zero x there = omega arith
at_within (y ∷ xs) (suc k) x there = omega (arith, at_within xs k x there)

small_marks : (eras : Eras) (history : History) (rows : List Row) (next_id : ℕ) (marks : List Mark) → LinesStand eras history rows next_id marks → length rows < 2 ^ 64 → length marks < 2 ^ 64 → All Small marks
small_marks eras history rows next_id marks stand few short = λ k d less.
    let mark = get_or marks k d in
    let known = stand.no_other_line k d less in
    let row = known.1 in
    let its = stand.each_row known.0 row known.2 in
    let id : mark.id ≡ known.0 + 1 = sym known.3 ∙ stand.ids.ids known.0 row known.2 in
    let below = numbers_below (of_id row.id marks) row.id 1 (entries_in (all_made eras row its.earlier its.tokens)) its.all_lines in
    let number = filter_tells (λ (m : Mark). m.number < 1 + length (of_id row.id marks)) (λ (m : Mark). m.id == row.id) marks k d less (eq-eqb mark.id row.id (sym known.3)) below in
    (omega (arith, id, at_within rows known.0 row known.2, few), omega (arith, number, filter_short (λ (m : Mark). m.id == row.id) marks, short))

-- ---- the row

pub stands_holds : (eras : Eras) (pipes : List Pipeline) (history : History) (checkpoint : Checkpoint) (file : List ℕ) (place : ℕ) (row : Row) (stands : CheckpointStands eras history checkpoint file)
    (at : IsRowAt checkpoint.rows place row) → AreEras eras → AreErasFrom eras row.born pipes → 0 < length pipes → checkpoint.observed < 2 ^ 64 → length checkpoint.rows < 2 ^ 64
    → length (take checkpoint.output_length file) < 2 ^ 64
    → RowHolds eras (bytes history (stands.stands.lines_stand.each_row place row at).file) row (take checkpoint.output_length file)
stands_holds eras pipes history checkpoint file place row stands at laws are some early few short =
    let kept = take checkpoint.output_length file in
    let marks = stands.stands.marks in
    let s = stands.stands.lines_stand.each_row place row at in
    let line : (last_era eras).line ≡ mark_line = last_line eras row.born pipes (rules_from eras row.born pipes are) some in
    let first : eras.first.line ≡ mark_line = sym (era.last_line eras laws) ∙ line in
    let output : kept ≡ flat_map mark_line marks = stands.stands.whole_lines ∙ ap (λ (l : Mark → List ℕ). flat_map l marks) first in
    let lines : whole_lines kept ≡ map mark_line marks = ap whole_lines output ∙ lines_whole marks in
    let small : All Small marks =
    small_marks eras history checkpoint.rows checkpoint.next_id marks stands.stands.lines_stand few (omega (arith, short, marks_short marks, ap length output)) in
    let id : row.id ≡ place + 1 = stands.stands.lines_stand.ids.ids place row at in
    let own = own_lines row.id (omega (arith, id, at_within checkpoint.rows place row at, few)) marks small in
    record {
      earlier = s.earlier;
      closed = s.closed;
      tokens = s.tokens;
      taken = s.taken;
      own = map (last_era eras).line (of_id row.id marks);
      are_own =
          subst (λ (l : Mark → List ℕ). AreOf row.id (whole_lines kept) (map l (of_id row.id marks))) (sym line)
          (subst (λ (ls : List (List ℕ)). AreOf row.id ls (map mark_line (of_id row.id marks))) (sym lines) own);
      lines = of_id row.id marks;
      spelled = refl;
      all_lines = s.all_lines;
      times = s.times;
      of_64_bits =
          All-weaker (λ (m : Mark). IfSome m.observed (λ t. t ≤ checkpoint.observed)) (λ (m : Mark). IsTime m.observed) (λ m. early_time m.observed) (of_id row.id marks)
          (All-filter (λ (m : Mark). m.id == row.id) (λ (m : Mark). IfSome m.observed (λ t. t ≤ checkpoint.observed)) marks stands.times);
    }
  where
    early_time : (observed : Option ℕ) → IfSome observed (λ t. t ≤ checkpoint.observed) → IsTime observed
    early_time None past = tt
    early_time (Some time) past = omega (arith, past, early)
