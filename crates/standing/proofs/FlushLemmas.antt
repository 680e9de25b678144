-- When a look flushes what waits of a file, and what it takes.
use Rattle.std.proofs.Common.{◌≡◌, ◌⊎◌, ℕ, suc, ◌+◌, ◌-◌, ◌≤◌, List, ◌++◌, length, drop, Bool, true, false, cond, refl, sym, ap, subst, ◌∙◌, inl, inr, arith, length-append, length-drop, length-take, min, ◌∷◌}
use Rattle.std.proofs.lemmas.Bool.{cases_Bool, cond-true, cond-false, le-ltb}
use Rattle.std.proofs.lemmas.Bool.Decides.{nat_tests}
use Rattle.std.proofs.lemmas.List.{map-append}
use Rattle.std.proofs.lemmas.List.Sums.{sum_by-append}
use Rattle.std.specs.Prelude.{nat_lt, nat_le, ◌&&◌, ◌==◌, [], Option}
use Rattle.line_splitter.specs.Cuts.{Cut}
use Rattle.entry_model.specs.LogRecord.{LogRecord}
use Rattle.idle_flush.specs.Looked.{looked}
use Rattle.idle_flush.specs.declared.idle.Idle.{Idle}
use Rattle.standing.specs.AreRules.{AreRules}
use Rattle.standing.specs.Flush.{Flushes, TakesAll, TakesPiece, TakesRange, piece_output, flush_output}
use Rattle.standing.specs.Limits.{most_taken}
use Rattle.standing.specs.Look.{Look, Taken, content, front, size, piece, fed, lines_of, looks_on, is_pending, noted, flushed, rest_of, noted_or_flushed, look_taken, piece_taken, all_taken, row_after, lines_added}
use Rattle.standing.specs.Marks.{numbered}
use Rattle.standing.specs.Poll.{Poll}
use Rattle.standing.specs.Rows.{Row}
use Rattle.standing.specs.Rules.{Rules}
use Rattle.standing.specs.Tokens.{tokens_of, used, used_by}
use Rattle.standing.proofs.MarkLemmas.{numbered-append}

both_true : (a b : Bool) → (a && b) ≡ true → (a ≡ true) × (b ≡ true)
both_true true b is = (refl, is)
both_true false b is = let never : false ≡ true = is in absurd (cc)

-- ---- when

looked_flush : (idle : Idle) (here after : ℕ) → here ≡ idle.seen → after ≤ idle.quiet + 1 → looked idle here true after ≡ (record { seen = here; quiet = 0 }, true)
looked_flush idle here after same enough = grind (arith, nat_tests)

looked_seen : (idle : Idle) (here after : ℕ) → (looked idle here true after).1 ≡ true → here ≡ idle.seen
looked_seen idle here after is = grind (arith, nat_tests)

looked_enough : (idle : Idle) (here after : ℕ) → (looked idle here true after).1 ≡ true → after ≤ idle.quiet + 1
looked_enough idle here after is = grind (arith, nat_tests)

looked_waits : (idle : Idle) (here : ℕ) (pending : Bool) (after : ℕ) → (looked idle here pending after).1 ≡ true → pending ≡ true
looked_waits idle here true after is = refl
looked_waits idle here false after is = let never : false ≡ true = is in absurd (cc)

looks_true : (rules : Rules) (here : Look) (offset : ℕ) → 1 ≤ rules.flush_after → here.end ≡ size here → size here ≤ offset + most_taken → looks_on rules here offset ≡ true
looks_true rules here offset asked read whole = grind (arith, nat_tests)

looks_asked : (rules : Rules) (here : Look) (offset : ℕ) → looks_on rules here offset ≡ true → 1 ≤ rules.flush_after
looks_asked rules here offset is = let asked : nat_lt 0 rules.flush_after ≡ true = (both_true (nat_lt 0 rules.flush_after) (here.end == size here && nat_le (size here) (offset + most_taken)) is).0 in grind (arith, nat_tests)

looks_read : (rules : Rules) (here : Look) (offset : ℕ) → looks_on rules here offset ≡ true → (here.end ≡ size here) × (size here ≤ offset + most_taken)
looks_read rules here offset is =
    let both = both_true (here.end == size here) (nat_le (size here) (offset + most_taken)) (both_true (nat_lt 0 rules.flush_after) (here.end == size here && nat_le (size here) (offset + most_taken)) is).1 in
    (let read : (here.end == size here) ≡ true = both.0 in grind (arith, nat_tests), let whole : nat_le (size here) (offset + most_taken) ≡ true = both.1 in grind (arith, nat_tests))

-- ---- what

abbrev row_fed : Poll → Look → Row → Row
row_fed poll here row = fed poll.rules (piece here row.offset) row

abbrev idle_of : Row → Idle
idle_of row = record { seen = row.seen; quiet = row.quiet }

abbrev look_at : Poll → Look → Row → Idle × Bool
look_at poll here row = looked (idle_of row) (size here) (is_pending poll.rules here (row_fed poll here row)) poll.rules.flush_after

abbrev waits_on : Poll → Look → Row → Idle → Taken
waits_on poll here row idle = record { row = noted idle (row_fed poll here row); lines = lines_of poll (piece here row.offset) row }

abbrev flush_taken : Poll → Look → Row → Idle → Taken
flush_taken poll here row idle = record {
  row = flushed poll.rules here (noted idle (row_fed poll here row));
  lines = lines_of poll (piece here row.offset) row ++ numbered row.id ((row_fed poll here row).lines + 1) poll.stamp (flush_output poll here row);
}

-- of the two, the one that the look's answer chooses
look_chooses : (poll : Poll) (here : Look) (row : Row) (look : Idle × Bool) → noted_or_flushed poll here look (piece_taken poll here row) ≡ cond look.1 (flush_taken poll here row look.0) (waits_on poll here row look.0)
look_chooses poll here row look = refl

all_looked : (poll : Poll) (here : Look) (row : Row) → looks_on poll.rules here row.offset ≡ true → all_taken poll here row ≡ cond (look_at poll here row).1 (flush_taken poll here row (look_at poll here row).0) (waits_on poll here row (look_at poll here row).0)
unfolding all_taken
all_looked poll here row on = cond-true (looks_on poll.rules here row.offset) (look_taken poll here (piece_taken poll here row)) (piece_taken poll here row) on ∙ look_chooses poll here row (look_at poll here row)

none_looked : (poll : Poll) (here : Look) (row : Row) → looks_on poll.rules here row.offset ≡ false → all_taken poll here row ≡ waits_on poll here row (idle_of row)
unfolding all_taken
none_looked poll here row off = cond-false (looks_on poll.rules here row.offset) (look_taken poll here (piece_taken poll here row)) (piece_taken poll here row) off

flush_said : (poll : Poll) (here : Look) (row : Row) → looks_on poll.rules here row.offset ≡ true → (look_at poll here row).1 ≡ true → Flushes poll here row
flush_said poll here row on is =
    let pending : Bool = is_pending poll.rules here (row_fed poll here row) in
    let waits : pending ≡ true = looked_waits (idle_of row) (size here) pending poll.rules.flush_after is in
    let said : (looked (idle_of row) (size here) true poll.rules.flush_after).1 ≡ true = subst (λ (t : Bool). (looked (idle_of row) (size here) t poll.rules.flush_after).1 ≡ true) waits is in
    let read = looks_read poll.rules here row.offset on in
    record {
      asked = looks_asked poll.rules here row.offset on;
      read = read.0;
      whole = read.1;
      waits = waits;
      same = looked_seen (idle_of row) (size here) poll.rules.flush_after said;
      enough = looked_enough (idle_of row) (size here) poll.rules.flush_after said;
    }

-- with a flush
pub all_at_flush : (poll : Poll) (here : Look) (row : Row) → Flushes poll here row → all_taken poll here row ≡ flush_taken poll here row (record { seen = size here; quiet = 0 })
all_at_flush poll here row is =
    let look : look_at poll here row ≡ (record { seen = size here; quiet = 0 }, true) =
    ap (λ (t : Bool). looked (idle_of row) (size here) t poll.rules.flush_after) is.waits ∙ looked_flush (idle_of row) (size here) poll.rules.flush_after is.same is.enough in
    all_looked poll here row (looks_true poll.rules here row.offset is.asked is.read is.whole)
    ∙ ap (λ (l : Idle × Bool). cond l.1 (flush_taken poll here row l.0) (waits_on poll here row l.0)) look

-- and without
pub all_without : (poll : Poll) (here : Look) (row : Row) → (Flushes poll here row → ⊥) → (idle : Idle) × (all_taken poll here row ≡ waits_on poll here row idle)
all_without poll here row unmet =
    elim (cases_Bool (looks_on poll.rules here row.offset)) [
      | inr off ↦ (idle_of row, none_looked poll here row off)
      | inl on ↦ elim (cases_Bool (look_at poll here row).1) [
        | inl is ↦ absurd (unmet (flush_said poll here row on is))
        | inr is ↦ ((look_at poll here row).0, all_looked poll here row on ∙ cond-false (look_at poll here row).1 (flush_taken poll here row (look_at poll here row).0) (waits_on poll here row (look_at poll here row).0) is)
      ]
    ]

decides : (poll : Poll) (here : Look) (row : Row) → Flushes poll here row ⊎ (Flushes poll here row → ⊥)
decides poll here row =
    elim (cases_Bool (looks_on poll.rules here row.offset)) [
      | inr off ↦ inr (λ (is : Flushes poll here row). let never : false ≡ true = sym off ∙ looks_true poll.rules here row.offset is.asked is.read is.whole in absurd (cc))
      | inl on ↦ elim (cases_Bool (look_at poll here row).1) [
        | inl is ↦ inl (flush_said poll here row on is)
        | inr quiet ↦ inr (λ (is : Flushes poll here row).
            let look : look_at poll here row ≡ (record { seen = size here; quiet = 0 }, true) =
            ap (λ (t : Bool). looked (idle_of row) (size here) t poll.rules.flush_after) is.waits ∙ looked_flush (idle_of row) (size here) poll.rules.flush_after is.same is.enough in
            let never : false ≡ true = sym quiet ∙ ap (λ (l : Idle × Bool). l.1) look in absurd (cc))
      ]
    ]

-- ---- the row that is left, and its lines

abbrev grown : Poll → Look → Row → Row
grown poll here row = record row { front = front poll.rules here }

row_after-all : (poll : Poll) (here : Look) (row : Row) → row.offset ≤ size here → row_after poll here row ≡ (all_taken poll here (grown poll here row)).row
unfolding row_after
row_after-all poll here row within = cond-false (nat_lt (size here) row.offset) (grown poll here row) (all_taken poll here (grown poll here row)).row (le-ltb (size here) row.offset within)

lines_added-all : (poll : Poll) (here : Look) (row : Row) → row.offset ≤ size here → lines_added poll here row ≡ (all_taken poll here row).lines
unfolding lines_added
lines_added-all poll here row within = cond-false (nat_lt (size here) row.offset) [] (all_taken poll here row).lines (le-ltb (size here) row.offset within)

flushes_grown : (poll : Poll) (here : Look) (row : Row) → Flushes poll here row → Flushes poll here (grown poll here row)
flushes_grown poll here row is = record { asked = is.asked; read = is.read; whole = is.whole; waits = is.waits; same = is.same; enough = is.enough }

flushes_grown-from : (poll : Poll) (here : Look) (row : Row) → Flushes poll here (grown poll here row) → Flushes poll here row
flushes_grown-from poll here row is = record { asked = is.asked; read = is.read; whole = is.whole; waits = is.waits; same = is.same; enough = is.enough }

row_at_flush : (poll : Poll) (here : Look) (row : Row) → row.offset ≤ size here → Flushes poll here row → row_after poll here row ≡ (flush_taken poll here (grown poll here row) (record { seen = size here; quiet = 0 })).row
row_at_flush poll here row within is = row_after-all poll here row within ∙ ap (λ (t : Taken). t.row) (all_at_flush poll here (grown poll here row) (flushes_grown poll here row is))

lines_at_flush : (poll : Poll) (here : Look) (row : Row) → row.offset ≤ size here → Flushes poll here row → lines_added poll here row ≡ (flush_taken poll here row (record { seen = size here; quiet = 0 })).lines
lines_at_flush poll here row within is = lines_added-all poll here row within ∙ ap (λ (t : Taken). t.lines) (all_at_flush poll here row is)

row_without : (poll : Poll) (here : Look) (row : Row) → row.offset ≤ size here → (Flushes poll here row → ⊥) → (idle : Idle) × (row_after poll here row ≡ noted idle (row_fed poll here (grown poll here row)))
row_without poll here row within none =
    let all = all_without poll here (grown poll here row) (λ is. none (flushes_grown-from poll here row is)) in
    (all.0, row_after-all poll here row within ∙ ap (λ (t : Taken). t.row) all.1)

lines_without : (poll : Poll) (here : Look) (row : Row) → row.offset ≤ size here → (Flushes poll here row → ⊥) → lines_added poll here row ≡ lines_of poll (piece here row.offset) row
lines_without poll here row within none =
    lines_added-all poll here row within ∙ ap (λ (t : Taken). t.lines) (all_without poll here row none).1

-- ---- the laws

both_outputs : (poll : Poll) (here : Look) (row : Row)
    → numbered row.id (row.lines + 1) poll.stamp (piece_output poll here row ++ flush_output poll here row)
    ≡ lines_of poll (piece here row.offset) row ++ numbered row.id ((row_fed poll here row).lines + 1) poll.stamp (flush_output poll here row)
both_outputs poll here row =
    let more : ℕ = length (piece_output poll here row) in
    let next : row.lines + 1 + more ≡ row.lines + more + 1 = omega arith in
    numbered-append row.id (row.lines + 1) poll.stamp (piece_output poll here row) (flush_output poll here row)
    ∙ ap (λ n. lines_of poll (piece here row.offset) row ++ numbered row.id n poll.stamp (flush_output poll here row)) next

pub takes_all : (poll : Poll) (here : Look) (row : Row) → row.offset ≤ size here → Flushes poll here row → TakesAll poll here row
takes_all poll here row within is =
    let after = row_at_flush poll here row within is in
    record {
      offset = ap (λ (r : Row). r.offset) after;
      state = ap (λ (r : Row). r.state) after;
      lines = lines_at_flush poll here row within is ∙ sym (both_outputs poll here row);
    }

pub takes_piece : (poll : Poll) (here : Look) (row : Row) → row.offset ≤ size here → (Flushes poll here row → ⊥) → TakesPiece poll here row
takes_piece poll here row within none =
    let after = (row_without poll here row within none).1 in
    record {
      offset = ap (λ (r : Row). r.offset) after;
      state = ap (λ (r : Row). r.state) after;
      lines = lines_without poll here row within none;
    }

length-numbered : (id n : ℕ) (time : Option ℕ) (entries : List LogRecord) → length (numbered id n time entries) ≡ length entries
length-numbered id n time [] = refl
length-numbered id n time (entry ∷ entries) = ap suc (length-numbered id (n + 1) time entries)

piece_within : (poll : Poll) (here : Look) (row : Row) → AreRules poll.rules → row.offset ≤ size here → row.offset + used poll.rules (piece here row.offset) ≤ size here
piece_within poll here row laws within =
    let rest : List ℕ = drop row.offset (content here) in
    omega (arith, laws.tokens.within (piece here row.offset), length-take (min here.end (row.offset + most_taken) - row.offset) rest, length-drop row.offset (content here), within)

range_at_flush : (poll : Poll) (here : Look) (row : Row) → AreRules poll.rules → row.offset ≤ size here → Flushes poll here row → TakesRange poll here row
range_at_flush poll here row laws within is =
    let rules : Rules = poll.rules in
    let mid : Row = row_fed poll here row in
    let after = row_at_flush poll here row within is in
    let all = takes_all poll here row within is in
    let first : List Cut = rules.cuts (piece here row.offset) in
    let behind = laws.tokens.resting (drop mid.offset (content here)) in
    let place = piece_within poll here row laws within in
    let total : used_by (first ++ behind.taken) ≡ used rules (piece here row.offset) + used_by behind.taken = sum_by-append (λ (c : Cut). c.used) first behind.taken in
    record {
      goes_on = omega (arith, all.offset, within);
      tokens = tokens_of rules (piece here row.offset) ++ rest_of rules here mid;
      are_cut = record {
        taken = first ++ behind.taken;
        are = ap (λ (ts : List (List ℕ)). tokens_of rules (piece here row.offset) ++ ts) behind.are ∙ sym (map-append (λ (c : Cut). c.text) first behind.taken);
        uses = omega (arith, total, behind.uses, length-drop mid.offset (content here), all.offset, place);
      };
      records = ap (λ (r : Row). r.records) after ∙ omega (arith, length-append (tokens_of rules (piece here row.offset)) (rest_of rules here mid));
      lines =
          let made : List LogRecord = piece_output poll here row ++ flush_output poll here row in
          let count : length (lines_added poll here row) ≡ length made = ap length all.lines ∙ length-numbered row.id (row.lines + 1) poll.stamp made in
          ap (λ (r : Row). r.lines) after ∙ omega (arith, count, length-append (piece_output poll here row) (flush_output poll here row));
    }

range_without : (poll : Poll) (here : Look) (row : Row) → AreRules poll.rules → row.offset ≤ size here → (Flushes poll here row → ⊥) → TakesRange poll here row
range_without poll here row laws within none =
    let rules : Rules = poll.rules in
    let after = (row_without poll here row within none).1 in
    let taken = takes_piece poll here row within none in
    record {
      goes_on = omega (arith, taken.offset);
      tokens = tokens_of rules (piece here row.offset);
      are_cut = record {
        taken = rules.cuts (piece here row.offset);
        are = refl;
        uses = omega (arith, taken.offset);
      };
      records = ap (λ (r : Row). r.records) after;
      lines =
          let count : length (lines_added poll here row) ≡ length (piece_output poll here row) = ap length taken.lines ∙ length-numbered row.id (row.lines + 1) poll.stamp (piece_output poll here row) in
          ap (λ (r : Row). r.lines) after ∙ omega (arith, count);
    }

pub takes_range : (poll : Poll) (here : Look) (row : Row) → AreRules poll.rules → row.offset ≤ size here → TakesRange poll here row
takes_range poll here row laws within =
    elim (decides poll here row) [
      | inl is ↦ range_at_flush poll here row laws within is
      | inr none ↦ range_without poll here row laws within none
    ]
