-- What is made of a row whose file was read on, by cases, and beside a look at the file.
use Rattle.std.proofs.Common.{◌≡◌, ℕ, ◌+◌, ◌-◌, ◌<◌, ◌≤◌, List, [], ◌∷◌, ◌++◌, length, drop, min, Bool, true, false, true≢false, not, nat_lt, nat_le, ◌==◌, ◌&&◌, ◌||◌, refl, sym, ap, ◌∙◌, inl, inr, arith, length-append, length-drop, eq-eqb}
use Rattle.std.proofs.lemmas.Bool.{cases_lt, cond-false, le-ltb, lt-ltb, ltb-true, leb-true, ne_eqb, and_parts, and_right}
use Rattle.std.proofs.lemmas.List.{append-nil, drop-drop, take_all, nil_from_length}
use Rattle.std.proofs.lemmas.Slice.Eq.{bytes_eq-Decides}
use Rattle.std.specs.Prelude.{if◌then◌else◌, IsTrue}
use Rattle.std.specs.Str.{bytes_eq}
use Rattle.file_tracker.specs.Places.{HasGone, with_front, with_look, with_progress}
use Rattle.file_tracker.specs.declared.ends.End.{End}
use Rattle.idle_flush.specs.Looked.{looked}
use Rattle.idle_flush.specs.declared.idle.Idle.{Idle}
use Rattle.pipeline.specs.RowStates.{rest_made}
use Rattle.standing.specs.AreRules.{AreRules}
use Rattle.standing.specs.Limits.{most_taken}
use Rattle.standing.specs.Look as standing
use Rattle.standing.specs.Look.{Look, Taken, all_taken, content, fed, front, lines_added, lines_of, look_taken, noted, piece, piece_taken, row_after, size}
use Rattle.standing.specs.Marks.{Mark}
use Rattle.standing.specs.Poll.{Poll}
use Rattle.standing.specs.Rows.{Row}
use Rattle.standing.specs.Rules.{Rules}
use Rattle.standing.specs.Tokens.{tokens_of, used}
use Rattle.file_pass.specs.Flushed.{waiting, looks_on, is_waiting, look_of, with_rest, rest_lines, row_looked, lines_looked, row_read, lines_read, is_flushed}
use Rattle.file_pass.specs.Grown.{LosesNothing, HasGrown}
use Rattle.file_pass.specs.declared.ending.Ending.{Ending}
use Rattle.file_pass.specs.declared.ending.Ending.TheVariants.{Whole, Failed, Shrunk}
use Rattle.file_pass.proofs.FeedingOn.{few_tokens, length-numbered}

-- ---- by cases

-- what is flushed waited
waits_then : (idle : Idle) (size : ℕ) (pending : Bool) (after : ℕ) → (looked idle size pending after).1 ≡ true → pending ≡ true
waits_then idle size true after is = refl
waits_then idle size false after is = absurd (true≢false (sym is))

-- what holds of each of the three ways, beside whether something was flushed
pub record EachRow (P : Bool → Row → Type 0) (rules : Rules) (size : ℕ) (given : List ℕ) (row : Row) : Type 0 where
  pub plain : P false (fed rules given row)
  pub looked_at : (idle : Idle) → P false (noted idle (fed rules given row))
  pub at_flush : (idle : Idle) → is_waiting rules size (fed rules given row) ≡ true → P true (with_rest rules size (waiting rules given) (noted idle (fed rules given row)))

looked_way : (P : Bool → Row → Type 0) (rules : Rules) (size : ℕ) (given : List ℕ) (row : Row) → EachRow P rules size given row
    → P (look_of rules size (fed rules given row)).1 (row_looked rules size (waiting rules given) (fed rules given row))
looked_way P rules size given row each = by (look_of rules size (fed rules given row)).1 refl
  where
    by : (flushed : Bool) → (look_of rules size (fed rules given row)).1 ≡ flushed
        → P flushed (if flushed then with_rest rules size (waiting rules given) (noted (look_of rules size (fed rules given row)).0 (fed rules given row)) else noted (look_of rules size (fed rules given row)).0 (fed rules given row))
    by true is = each.at_flush (look_of rules size (fed rules given row)).0 (waits_then (record { seen = row.seen; quiet = row.quiet }) size (is_waiting rules size (fed rules given row)) rules.flush_after is)
    by false is = each.looked_at (look_of rules size (fed rules given row)).0

pub row_is : (P : Bool → Row → Type 0) (rules : Rules) (size : ℕ) (ending : Ending) (given : List ℕ) (row : Row) → EachRow P rules size given row
    → P (is_flushed rules size ending given row) (row_read rules size ending given row)
unfolding row_read is_flushed
row_is P rules size ending given row each = by (looks_on rules size ending row.offset)
  where
    by : (on : Bool) → P (on && (look_of rules size (fed rules given row)).1) (if on then row_looked rules size (waiting rules given) (fed rules given row) else fed rules given row)
    by true = looked_way P rules size given row each
    by false = each.plain

-- ---- what a row keeps

same_numbers : (row : Row) (offset records lines : ℕ) (state : List ℕ) → offset ≡ row.offset → records ≡ row.records → lines ≡ row.lines → state ≡ row.state → with_progress offset records lines state row ≡ row
same_numbers row offset records lines state a b c d = rw (a, b, c, d) refl

pub record RowRead (rules : Rules) (size : ℕ) (row : Row) (flushed : Bool) (after : Row) : Type 0 where
  pub same : after ≡ with_look after.seen after.quiet (with_progress after.offset after.records after.lines after.state row)
  pub within : after.offset ≤ size
  pub rises : HasGone row after.offset after.records after.lines
  pub good : IsTrue (rules.is_state after.state)
  pub held : LosesNothing rules row (with_progress after.offset after.records after.lines after.state row)
  pub grown : flushed ≡ true → HasGrown rules row (with_progress after.offset after.records after.lines after.state row)
  pub stays : flushed ≡ false → after.offset ≤ row.offset → with_progress after.offset after.records after.lines after.state row ≡ row

module _ (poll : Poll) (laws : AreRules poll.rules) (size : ℕ) (given : List ℕ) (row : Row) (good : IsTrue (poll.rules.is_state row.state)) (inside : row.offset + length given ≤ size) where
  abbrev fed_row : Row
  fed_row = fed poll.rules given row

  -- where it came no further the row is as it was
  fed_stays : fed_row.offset ≤ row.offset → with_progress fed_row.offset fed_row.records fed_row.lines fed_row.state row ≡ row
  fed_stays no_further =
      let none : tokens_of poll.rules given ≡ [] = nil_from_length (tokens_of poll.rules given) (omega (arith, no_further, few_tokens poll laws given)) in
      let none_made : poll.rules.made row.path row.records row.state (tokens_of poll.rules given) ≡ [] = ap (poll.rules.made row.path row.records row.state) none ∙ laws.operators.none_made row.path row.records row.state good in
      let same_state : fed_row.state ≡ row.state = ap (poll.rules.state_after row.path row.records row.state) none ∙ laws.operators.state_stays row.path row.records row.state good in
      same_numbers row fed_row.offset fed_row.records fed_row.lines fed_row.state (omega (arith, no_further)) (omega (arith, ap length none)) (omega (arith, ap length none_made)) same_state

  fed_state : fed_row.offset ≤ row.offset → fed_row.state ≡ row.state
  fed_state no_further = ap (λ (r : Row). r.state) (fed_stays no_further)

  fed_good : IsTrue (poll.rules.is_state fed_row.state)
  fed_good = laws.operators.state_goes_on row.path row.records row.state (tokens_of poll.rules given) good

  fed_held : LosesNothing poll.rules row (with_progress fed_row.offset fed_row.records fed_row.lines fed_row.state row)
  fed_held = record {
    front = omega arith;
    offset = omega arith;
    held = elim (cases_lt row.offset fed_row.offset) [ inl further ↦ inl further | inr no_further ↦ inr (inl (fed_state no_further)) ];
  }

  -- what waited lets the row grow
  waits_grow : is_waiting poll.rules size fed_row ≡ true → HasGrown poll.rules row (with_progress size (fed_row.records + length (poll.rules.rest (waiting poll.rules given))) (fed_row.lines + length (rest_made poll.rules (waiting poll.rules given) fed_row)) poll.rules.fresh row)
  waits_grow waits = elim (cases_lt row.offset size) [
    | inl further ↦ inr (inl further)
    | inr no_further ↦ inr (inr (record { were_open = λ fresh. by_state no_further (nat_lt fed_row.offset size) refl fresh waits; closed = refl }))
  ]
    where
      by_fresh : (same : Bool) → bytes_eq fed_row.state poll.rules.fresh ≡ same → fed_row.state ≡ poll.rules.fresh → not same ≡ true → ⊥
      by_fresh true is fresh waits = true≢false (sym waits)
      by_fresh false is fresh waits = true≢false (sym ((bytes_eq-Decides fed_row.state poll.rules.fresh).1 fresh) ∙ is)

      by_state : size ≤ row.offset → (past : Bool) → nat_lt fed_row.offset size ≡ past → row.state ≡ poll.rules.fresh → (past || not (bytes_eq fed_row.state poll.rules.fresh)) ≡ true → ⊥
      by_state no_further true is fresh waits = omega (arith, ltb-true fed_row.offset size is, no_further)
      by_state no_further false is fresh waits = by_fresh (bytes_eq fed_row.state poll.rules.fresh) refl (fed_state (omega (arith, inside, no_further, laws.tokens.within given)) ∙ fresh) waits

  pub read_row : (ending : Ending) → RowRead poll.rules size row (is_flushed poll.rules size ending given row) (row_read poll.rules size ending given row)
  read_row ending =
      let rises : HasGone row fed_row.offset fed_row.records fed_row.lines = record { offset_rises = omega arith; records_rise = omega arith; lines_rise = omega arith } in
      let within : fed_row.offset ≤ size = omega (arith, inside, laws.tokens.within given) in
      row_is (RowRead poll.rules size row) poll.rules size ending given row (record {
        plain = record {
          same = refl;
          within = within;
          rises = rises;
          good = fed_good;
          held = fed_held;
          grown = λ is. absurd (true≢false (sym is));
          stays = λ _ no_further. fed_stays no_further;
        };
        looked_at = λ idle. record {
          same = refl;
          within = within;
          rises = rises;
          good = fed_good;
          held = fed_held;
          grown = λ is. absurd (true≢false (sym is));
          stays = λ _ no_further. fed_stays no_further;
        };
        at_flush = λ idle waits. record {
          same = refl;
          within = omega arith;
          rises = record { offset_rises = omega (arith, inside); records_rise = omega arith; lines_rise = omega arith };
          good = laws.operators.fresh_is_state;
          held = record { front = omega arith; offset = omega (arith, inside); held = inr (inr refl) };
          grown = λ _. waits_grow waits;
          stays = λ is. absurd (true≢false is);
        };
      })

-- where nothing is ever flushed, what is remembered of looks stays
pub never_on : (rules : Rules) (size : ℕ) (ending : Ending) (offset : ℕ) → rules.flush_after ≡ 0 → looks_on rules size ending offset ≡ false
never_on rules size Whole offset never = ap (λ n. nat_lt 0 n && nat_le size (offset + most_taken)) never
never_on rules size Failed offset never = refl
never_on rules size Shrunk offset never = refl

pub never_looked : (rules : Rules) (size : ℕ) (ending : Ending) (given : List ℕ) (row : Row) → rules.flush_after ≡ 0 → row_read rules size ending given row ≡ fed rules given row
unfolding row_read
never_looked rules size ending given row never = cond-false (looks_on rules size ending row.offset) _ (fed rules given row) (never_on rules size ending row.offset never)

-- ---- beside the front, and where the row begins

-- the same row with another front, start, era and ends
abbrev pub others : List ℕ → ℕ → ℕ → List End → Row → Row
others seen start born ends row = record row { front = seen; start = start; born = born; ends = ends }

pub read_others : (rules : Rules) (size : ℕ) (ending : Ending) (given seen : List ℕ) (start born : ℕ) (ends : List End) (row : Row)
    → row_read rules size ending given (others seen start born ends row) ≡ others seen start born ends (row_read rules size ending given row)
unfolding row_read
read_others rules size ending given seen start born ends row = by (looks_on rules size ending row.offset)
  where
    by_look : (flushed : Bool) (idle : Idle) → ◌≡◌ {A = Row} (if flushed then with_rest rules size (waiting rules given) (noted idle (fed rules given (others seen start born ends row))) else noted idle (fed rules given (others seen start born ends row)))
        (others seen start born ends (if flushed then with_rest rules size (waiting rules given) (noted idle (fed rules given row)) else noted idle (fed rules given row)))
    by_look true idle = refl
    by_look false idle = refl

    by : (on : Bool) → ◌≡◌ {A = Row} (if on then row_looked rules size (waiting rules given) (fed rules given (others seen start born ends row)) else fed rules given (others seen start born ends row))
        (others seen start born ends (if on then row_looked rules size (waiting rules given) (fed rules given row) else fed rules given row))
    by true = by_look (look_of rules size (fed rules given row)).1 (look_of rules size (fed rules given row)).0
    by false = refl

pub lines_others : (poll : Poll) (size : ℕ) (ending : Ending) (given seen : List ℕ) (start born : ℕ) (ends : List End) (row : Row) → lines_read poll size ending given (others seen start born ends row) ≡ lines_read poll size ending given row
unfolding lines_read
lines_others poll size ending given seen start born ends row = refl

pub flushed_others : (rules : Rules) (size : ℕ) (ending : Ending) (given seen : List ℕ) (start born : ℕ) (ends : List End) (row : Row) → is_flushed rules size ending given (others seen start born ends row) ≡ is_flushed rules size ending given row
unfolding is_flushed
flushed_others rules size ending given seen start born ends row = refl

-- ---- lines

-- the lines of what was read come first
pub lines_begin : (poll : Poll) (size : ℕ) (ending : Ending) (given : List ℕ) (row : Row) → (more : List Mark) × (lines_read poll size ending given row ≡ lines_of poll given row ++ more)
unfolding lines_read
lines_begin poll size ending given row = (_, refl)

pub lines_counted : (poll : Poll) (size : ℕ) (ending : Ending) (given : List ℕ) (row : Row) → (row_read poll.rules size ending given row).lines ≡ row.lines + length (lines_read poll size ending given row)
unfolding row_read lines_read
lines_counted poll size ending given row = by (looks_on poll.rules size ending row.offset)
  where
    fed_counted : length (lines_of poll given row) ≡ length (poll.rules.made row.path row.records row.state (tokens_of poll.rules given))
    fed_counted = length-numbered row.id (row.lines + 1) poll.stamp (poll.rules.made row.path row.records row.state (tokens_of poll.rules given))

    by_look : (flushed : Bool) (idle : Idle)
        → (if flushed then with_rest poll.rules size (waiting poll.rules given) (noted idle (fed poll.rules given row)) else noted idle (fed poll.rules given row)).lines
        ≡ row.lines + length (lines_of poll given row ++ (if flushed then rest_lines poll (waiting poll.rules given) (fed poll.rules given row) else []))
    by_look true idle =
        omega (
          arith,
          length-append (lines_of poll given row) (rest_lines poll (waiting poll.rules given) (fed poll.rules given row)),
          fed_counted,
          length-numbered row.id ((fed poll.rules given row).lines + 1) poll.stamp (rest_made poll.rules (waiting poll.rules given) (fed poll.rules given row)),
        )
    by_look false idle = omega (arith, ap length (append-nil (lines_of poll given row)), fed_counted)

    by : (on : Bool) → (if on then row_looked poll.rules size (waiting poll.rules given) (fed poll.rules given row) else fed poll.rules given row).lines
        ≡ row.lines + length (lines_of poll given row ++ (if on then lines_looked poll size (waiting poll.rules given) (fed poll.rules given row) else []))
    by true = by_look (look_of poll.rules size (fed poll.rules given row)).1 (look_of poll.rules size (fed poll.rules given row)).0
    by false = omega (arith, ap length (append-nil (lines_of poll given row)), fed_counted)

-- ---- where the look says

module _ (poll : Poll) (size : ℕ) (ending : Ending) (given : List ℕ) (row : Row) where
  pub read_looked : looks_on poll.rules size ending row.offset ≡ true → row_read poll.rules size ending given row ≡ row_looked poll.rules size (waiting poll.rules given) (fed poll.rules given row)
  unfolding row_read
  read_looked on = ap (λ (t : Bool). if t then row_looked poll.rules size (waiting poll.rules given) (fed poll.rules given row) else fed poll.rules given row) on

  pub read_plain : looks_on poll.rules size ending row.offset ≡ false → row_read poll.rules size ending given row ≡ fed poll.rules given row
  unfolding row_read
  read_plain off = ap (λ (t : Bool). if t then row_looked poll.rules size (waiting poll.rules given) (fed poll.rules given row) else fed poll.rules given row) off

  pub lines_with_look : looks_on poll.rules size ending row.offset ≡ true → lines_read poll size ending given row ≡ lines_of poll given row ++ lines_looked poll size (waiting poll.rules given) (fed poll.rules given row)
  unfolding lines_read
  lines_with_look on = ap (λ (t : Bool). lines_of poll given row ++ (if t then lines_looked poll size (waiting poll.rules given) (fed poll.rules given row) else [])) on

  pub lines_plain : looks_on poll.rules size ending row.offset ≡ false → lines_read poll size ending given row ≡ lines_of poll given row
  unfolding lines_read
  lines_plain off = ap (λ (t : Bool). lines_of poll given row ++ (if t then lines_looked poll size (waiting poll.rules given) (fed poll.rules given row) else [])) off ∙ append-nil (lines_of poll given row)

  pub flushed_looked : looks_on poll.rules size ending row.offset ≡ true → is_flushed poll.rules size ending given row ≡ (look_of poll.rules size (fed poll.rules given row)).1
  unfolding is_flushed
  flushed_looked on = ap (λ (t : Bool). t && (look_of poll.rules size (fed poll.rules given row)).1) on

  pub flushed_plain : looks_on poll.rules size ending row.offset ≡ false → is_flushed poll.rules size ending given row ≡ false
  unfolding is_flushed
  flushed_plain off = ap (λ (t : Bool). t && (look_of poll.rules size (fed poll.rules given row)).1) off

-- what a look's answer makes of the row
module _ (poll : Poll) (size : ℕ) (bytes : List ℕ) (row : Row) (look : Idle × Bool) (is : look ≡ look_of poll.rules size row) where
  abbrev row_by : Idle × Bool → Row
  row_by l = if l.1 then with_rest poll.rules size bytes (noted l.0 row) else noted l.0 row

  abbrev lines_by : Idle × Bool → List Mark
  lines_by l = if l.1 then rest_lines poll bytes row else []

  pub row_at_flush : look.1 ≡ true → with_rest poll.rules size bytes (noted look.0 row) ≡ row_looked poll.rules size bytes row
  row_at_flush flushes = ap (λ (t : Bool). if t then with_rest poll.rules size bytes (noted look.0 row) else noted look.0 row) (sym flushes) ∙ ap row_by is

  pub row_at_look : look.1 ≡ false → noted look.0 row ≡ row_looked poll.rules size bytes row
  row_at_look stays = ap (λ (t : Bool). if t then with_rest poll.rules size bytes (noted look.0 row) else noted look.0 row) (sym stays) ∙ ap row_by is

  pub lines_at_flush : look.1 ≡ true → rest_lines poll bytes row ≡ lines_looked poll size bytes row
  lines_at_flush flushes = ap (λ (t : Bool). if t then rest_lines poll bytes row else []) (sym flushes) ∙ ap lines_by is

  pub lines_at_look : look.1 ≡ false → [] ≡ lines_looked poll size bytes row
  lines_at_look stays = ap (λ (t : Bool). if t then rest_lines poll bytes row else []) (sym stays) ∙ ap lines_by is

-- may flush only what was read to the file's end
pub on_whole : (rules : Rules) (size : ℕ) (ending : Ending) (offset : ℕ) → looks_on rules size ending offset ≡ true → (ending ≡ Whole) × (1 ≤ rules.flush_after) × (size ≤ offset + most_taken)
on_whole rules size Whole offset on =
    let both = and_parts (nat_lt 0 rules.flush_after) (nat_le size (offset + most_taken)) on in
    (refl, omega (arith, ltb-true 0 rules.flush_after both.0), leb-true size (offset + most_taken) both.1)
on_whole rules size Failed offset on = absurd (true≢false (sym on))
on_whole rules size Shrunk offset on = absurd (true≢false (sym on))

-- a file that was read to its end, where something is ever flushed
pub on_here : (rules : Rules) (size offset : ℕ) → 1 ≤ rules.flush_after → nat_le size (offset + most_taken) ≡ looks_on rules size Whole offset
on_here rules size offset asked = ap (λ (t : Bool). t && nat_le size (offset + most_taken)) (sym (lt-ltb 0 rules.flush_after (omega (arith, asked))))

pub some_of : (bytes : List ℕ) → (length bytes == 0) ≡ false → 1 ≤ length bytes
some_of [] is = absurd (true≢false is)
some_of (byte ∷ bytes) is = omega arith

pub bytes_wait : (offset many : ℕ) (held : Bool) → 1 ≤ many → true ≡ (nat_lt offset (offset + many) || held)
bytes_wait offset many held some = ap (λ (t : Bool). t || held) (sym (lt-ltb offset (offset + many) (omega (arith, some))))

pub groups_wait : (offset many : ℕ) (held : Bool) → many ≡ 0 → held ≡ (nat_lt offset (offset + many) || held)
groups_wait offset many held none = ap (λ (t : Bool). t || held) (sym (le-ltb offset (offset + many) (omega (arith, none))))

-- ---- beside a look at the file

same_taken : {row other : Row} {lines other_lines : List Mark} → row ≡ other → lines ≡ other_lines → ◌≡◌ {A = Taken} (record { row = row; lines = lines }) (record { row = other; lines = other_lines })
same_taken a b = cc

-- what a look makes of a row behind which these bytes wait
abbrev looked_taken : Poll → ℕ → List ℕ → Taken → Taken
looked_taken poll size rest before =
    let now : Row = noted (look_of poll.rules size before.row).0 before.row in
    if (look_of poll.rules size before.row).1
    then record { row = with_rest poll.rules size rest now; lines = before.lines ++ rest_lines poll rest before.row }
    else record { row = now; lines = before.lines }

looked_apart : (poll : Poll) (size : ℕ) (rest : List ℕ) (before : Taken) → ◌≡◌ {A = Taken} (looked_taken poll size rest before) (record { row = row_looked poll.rules size rest before.row; lines = before.lines ++ lines_looked poll size rest before.row })
looked_apart poll size rest before = by (look_of poll.rules size before.row).1 (look_of poll.rules size before.row).0
  where
    by : (flushed : Bool) (idle : Idle) → ◌≡◌ {A = Taken} (if flushed then record { row = with_rest poll.rules size rest (noted idle before.row); lines = before.lines ++ rest_lines poll rest before.row } else record { row = noted idle before.row; lines = before.lines })
        (record { row = if flushed then with_rest poll.rules size rest (noted idle before.row) else noted idle before.row; lines = before.lines ++ (if flushed then rest_lines poll rest before.row else []) })
    by true idle = refl
    by false idle = same_taken refl (sym (append-nil before.lines))

same_on : (rules : Rules) (here : Look) (offset : ℕ) (ending : Ending) → (ending ≡ Whole → here.end ≡ size here) → ((ending ≡ Whole → ⊥) → here.end < size here) → standing.looks_on rules here offset ≡ looks_on rules (size here) ending offset
same_on rules here offset ending whole partly = by ending refl
  where
    cut : here.end < size here → standing.looks_on rules here offset ≡ false
    cut early =
        and_right (nat_lt 0 rules.flush_after) (here.end == size here && nat_le (size here) (offset + most_taken))
        (ap (λ (t : Bool). t && nat_le (size here) (offset + most_taken)) (ne_eqb here.end (size here) (λ e. omega (arith, e, early))))

    by : (e : Ending) → ending ≡ e → standing.looks_on rules here offset ≡ looks_on rules (size here) e offset
    by Whole is = ap (λ (t : Bool). nat_lt 0 rules.flush_after && (t && nat_le (size here) (offset + most_taken))) (eq-eqb here.end (size here) (whole is))
    by Failed is = cut (partly (λ e. let never : Failed ≡ Whole = sym is ∙ e in cc))
    by Shrunk is = cut (partly (λ e. let never : Shrunk ≡ Whole = sym is ∙ e in cc))

module _ (poll : Poll) (here : Look) (row : Row) (ending : Ending) (begins : row.offset ≤ size here) (whole : ending ≡ Whole → here.end ≡ size here) (partly : (ending ≡ Whole → ⊥) → here.end < size here) where
  abbrev read : List ℕ
  read = piece here row.offset

  abbrev now : Row
  now = fed poll.rules read row

  -- what no token used waits up to the file's end, where it was read that far
  rest_is : here.end ≡ size here → size here ≤ row.offset + most_taken → drop now.offset (content here) ≡ waiting poll.rules read
  rest_is end near =
      let all : read ≡ drop row.offset (content here) = take_all (min here.end (row.offset + most_taken) - row.offset) (drop row.offset (content here)) (omega (arith, end, near, length-drop row.offset (content here))) in
      sym (drop-drop (used poll.rules read) row.offset (content here)) ∙ ap (drop (used poll.rules read)) (sym all)

  taken_then : (on : Bool) → (on ≡ true → drop now.offset (content here) ≡ waiting poll.rules read)
      → ◌≡◌ {A = Taken} (if on then look_taken poll here (piece_taken poll here row) else piece_taken poll here row)
      (record { row = if on then row_looked poll.rules (size here) (waiting poll.rules read) now else now; lines = lines_of poll read row ++ (if on then lines_looked poll (size here) (waiting poll.rules read) now else []) })
  taken_then true rest =
      ap (λ (bytes : List ℕ). looked_taken poll (size here) bytes (piece_taken poll here row)) (rest refl) ∙ looked_apart poll (size here) (waiting poll.rules read) (piece_taken poll here row)
  taken_then false rest = same_taken refl (sym (append-nil (lines_of poll read row)))

  taken_so : ◌≡◌ {A = Taken} (all_taken poll here row) (record { row = row_read poll.rules (size here) ending read row; lines = lines_read poll (size here) ending read row })
  unfolding all_taken row_read lines_read
  taken_so =
      ap (λ (t : Bool). if t then look_taken poll here (piece_taken poll here row) else piece_taken poll here row) (same_on poll.rules here row.offset ending whole partly)
      ∙ taken_then (looks_on poll.rules (size here) ending row.offset) (λ yes. let far = on_whole poll.rules (size here) ending row.offset yes in rest_is (whole far.0) far.2)

  pub row_taken : (all_taken poll here row).row ≡ row_read poll.rules (size here) ending read row
  row_taken = ap (λ (t : Taken). t.row) taken_so

  pub lines_taken : (all_taken poll here row).lines ≡ lines_read poll (size here) ending read row
  lines_taken = ap (λ (t : Taken). t.lines) taken_so

-- what a look makes of a row that isn't past the file's end
pub row_after_read : (poll : Poll) (here : Look) (row : Row) → row.offset ≤ size here → row_after poll here row ≡ (all_taken poll here (with_front (front poll.rules here) row)).row
unfolding row_after
row_after_read poll here row within =
    let grown : Row = with_front (front poll.rules here) row in
    cond-false (nat_lt (size here) row.offset) grown (all_taken poll here grown).row (le-ltb (size here) row.offset within)

pub lines_added_read : (poll : Poll) (here : Look) (row : Row) → row.offset ≤ size here → lines_added poll here row ≡ (all_taken poll here row).lines
unfolding lines_added
lines_added_read poll here row within = cond-false (nat_lt (size here) row.offset) [] (all_taken poll here row).lines (le-ltb (size here) row.offset within)
