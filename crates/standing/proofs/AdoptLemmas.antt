-- What stands when other settings are adopted.
use Rattle.std.proofs.Common.{◌≡◌, ◌≢◌, ℕ, zero, suc, ◌+◌, ◌-◌, ◌<◌, ◌≤◌, List, [], ◌∷◌, ◌++◌, length, take, drop, map, Bool, true, false, None, Some, IsTrue, refl, sym, ap, subst, ◌∙◌, arith, append_assoc, length-append}
use Rattle.std.proofs.lemmas.List.{append-nil, length-map}
use Rattle.std.proofs.lemmas.List.Elements.{All-append, All-nil, All-cons, All-head, All-tail, All-weaker}
use Rattle.std.specs.List.{All, flat_map}
use Rattle.std.specs.Prelude.{Option, slice_get, is_some, IfSome, if◌then◌else◌}
use Rattle.entry_model.specs.LogRecord.{LogRecord}
use Rattle.file_tracker.specs.declared.ends.End.{End}
use Rattle.outside.specs.World.{History, bytes}
use Rattle.standing.specs.Adopted.{with_era, end_of, row_adopted, lines_closed, closing_time, Adopts}
use Rattle.standing.specs.AreRules.{AreRules}
use Rattle.standing.specs.Closed.{Made, ClosedPart, AreClosed, made_in, flagged, all_made, entries_in, flags_in}
use Rattle.standing.specs.Eras.{Eras, AreEras, all_eras, era_at, era_count, last_era, last_of, texts_of}
use Rattle.standing.specs.Marks.{Mark, of_id, numbered, untimed}
use Rattle.standing.specs.Part.{HasTaken, part_from, part_output, first_point, last_point, last_part}
use Rattle.standing.specs.Prefixes.{IsPrefix}
use Rattle.standing.specs.Rows.{Row, Checkpoint, IsRowAt, KeepStates}
use Rattle.standing.specs.Rules.{Rules}
use Rattle.standing.specs.Standing.{Lengthens}
use Rattle.standing.specs.Stands.{RowStands, LinesStand, CheckpointStands, IsIdOf}
use Rattle.standing.specs.Times.{AreTimed, AreBefore, NoneLater}
use Rattle.standing.specs.Tokens.{UpTo}
use Rattle.standing.proofs.EraLemmas.{last_laws, last_at}
use Rattle.standing.proofs.MarkLemmas.{of_id-append, of_id-numbered, of_id-others, untimed-append, untimed-numbered, numbered-append, All-numbered}
use Rattle.standing.proofs.PartLemmas.{closed_lines, entries_flagged, flags_flagged, entries-append, flags-append, many-flagged, made_goes_on}
use Rattle.standing.proofs.PassLemmas.{longer_text}
use Rattle.standing.proofs.TimeLemmas.{timed_append, numbered_times, before_of_id}
use Rattle.standing.proofs.TokenLemmas.{up_to_none}

-- ---- one era more

get_longer : {A : Type 0} (xs ys : List A) (k : ℕ) (x : A) → slice_get xs k ≡ Some x → slice_get (xs ++ ys) k ≡ Some x
get_longer {A = A} [] ys k x is = absurd (let never : ◌≡◌ {A = Option A} None (Some x) = is in cc)
get_longer (y ∷ xs) ys zero x is = is
get_longer (y ∷ xs) ys (suc k) x is = get_longer xs ys k x is

era_kept : (eras : Eras) (next : Rules) (era : ℕ) (rules : Rules) → era_at eras era ≡ Some rules → era_at (with_era eras next) era ≡ Some rules
era_kept eras next zero rules is = absurd (let never : ◌≡◌ {A = Option Rules} None (Some rules) = is in cc)
era_kept eras next (suc n) rules is = get_longer (all_eras eras) (next ∷ []) n rules is

last_is : (eras : Eras) (next : Rules) → last_era (with_era eras next) ≡ next
last_is eras next = by eras.first eras.later
  where
    by : (first : Rules) (later : List Rules) → last_of first (later ++ next ∷ []) ≡ next
    by first [] = refl
    by first (rules ∷ later) = by rules later

count_is : (eras : Eras) (next : Rules) → era_count (with_era eras next) ≡ era_count eras + 1
count_is eras next = omega (arith, length-append eras.later (next ∷ []))

-- ---- one part more

module _ (eras : Eras) (next : Rules) (content path : List ℕ) where
  abbrev more_eras : Eras
  more_eras = with_era eras next

  closed_longer : (era : ℕ) (from : End) (ends : List End) (made : List Made) → AreClosed eras content path era from ends made → AreClosed more_eras content path era from ends made
  closed_longer era from [] made closed = closed
  closed_longer era from (end ∷ ends) made closed =
      let part = closed.0 in (
        record {
          rules = part.rules;
          there = era_kept eras next era part.rules part.there;
          begins = part.begins;
          within = part.within;
          tokens = part.tokens;
          bound = part.bound;
          records = part.records;
          lines = part.lines;
        },
        closed.1,
        closed.2,
        closed_longer (era + 1) end ends closed.1 closed.3,
      )

  closed_more : (era n : ℕ) (from : End) (ends : List End) (end : End) (made : List Made) (part : ClosedPart more_eras content path n (last_point from ends) end) → n ≡ era + length ends
      → AreClosed more_eras content path era from ends made → AreClosed more_eras content path era from (ends ++ end ∷ []) (made ++ made_in more_eras content path n (last_point from ends) end part)
  closed_more era n from [] end made part is closed =
      let here : ClosedPart more_eras content path era from end = record {
        rules = part.rules;
        there = subst (λ k. era_at more_eras k ≡ Some part.rules) (omega (arith, is)) part.there;
        begins = part.begins;
        within = part.within;
        tokens = part.tokens;
        bound = part.bound;
        records = part.records;
        lines = part.lines;
      } in
      let gave : List Made = made_in more_eras content path n from end part in
      (here, [], ap (λ (ms : List Made). ms ++ gave) closed ∙ sym (append-nil gave), refl)
  closed_more era n from (first ∷ ends) end made part is closed =
      let gave : List Made = made_in more_eras content path n (last_point first ends) end part in (
        closed.0,
        closed.1 ++ gave,
        ap (λ (ms : List Made). ms ++ gave) closed.2 ∙ append_assoc (made_in more_eras content path era from first closed.0) closed.1 gave,
        closed_more (era + 1) n first ends end closed.1 part (omega (arith, is)) closed.3,
      )

last_point-more : (from : End) (ends : List End) (end : End) → last_point from (ends ++ end ∷ []) ≡ end
last_point-more from [] end = refl
last_point-more from (first ∷ ends) end = last_point-more first ends end

-- ---- one row

module _ (eras : Eras) (laws : AreEras eras) (next : Rules) (more_laws : AreEras (with_era eras next)) (observed : ℕ) where
  abbrev rules_then : Rules
  rules_then = last_era eras

  abbrev time : Option ℕ
  time = closing_time rules_then observed

  time_told : is_some time ≡ rules_then.stamps
  time_told = by rules_then.stamps
    where
      by : (stamps : Bool) → is_some (if stamps then Some observed else None) ≡ stamps
      by true = refl
      by false = refl

  times_before : (marks : List Mark) → NoneLater observed marks → AreBefore time marks
  times_before marks none = by rules_then.stamps
    where
      by : (stamps : Bool) → AreBefore (if stamps then Some observed else None) marks
      by true = none
      by false = tt

  next_laws : AreRules next
  next_laws = subst AreRules (last_is eras next) (last_laws (with_era eras next) more_laws)

  taken_anew : (content : List ℕ) (row : Row) (point : End) → row.offset ≡ point.offset → row.offset ≤ length content → row.records ≡ point.records → row.lines ≡ point.lines → row.state ≡ next.fresh
      → HasTaken next (part_from next point) content [] row
  taken_anew content row point offset within records lines state =
      let none : next.made row.path point.records next.fresh [] ≡ [] = next_laws.operators.none_made row.path point.records next.fresh next_laws.operators.fresh_is_state in
      record {
        begins = omega (arith, offset);
        within = within;
        bound =
            let P : ℕ → Type 0 = λ n. UpTo next (drop point.offset content) n [] in
            let none_past : 0 ≡ row.offset - point.offset = omega (arith, offset) in
            subst P none_past (up_to_none next next_laws.tokens (drop point.offset content));
        records = omega (arith, records);
        lines = omega (arith, lines, ap length none);
        state = state ∙ sym (next_laws.operators.state_stays row.path point.records next.fresh next_laws.operators.fresh_is_state);
      }

  row_goes_on : (history : History) (row : Row) (lines : List Mark) → NoneLater observed lines → RowStands eras history row lines
      → RowStands (with_era eras next) history (row_adopted rules_then next row) (lines ++ lines_closed rules_then time row)
  row_goes_on history row lines none stands =
      let content : List ℕ = bytes history stands.file in
      let more : Eras = with_era eras next in
      let adopted : Row = row_adopted rules_then next row in
      let end : End = end_of rules_then row in
      let point : End = last_point (first_point row) row.ends in
      let out : List LogRecord = rules_then.closed row.state in
      let made : List LogRecord = rules_then.made row.path point.records rules_then.fresh stands.tokens in
      let state_is : out ≡ rules_then.closed (rules_then.state_after row.path point.records rules_then.fresh stands.tokens) = ap rules_then.closed stands.taken.state in
      let part : ClosedPart more content row.path (row.born + length row.ends) point end = record {
        rules = rules_then;
        there = era_kept eras next (row.born + length row.ends) rules_then (subst (λ n. era_at eras n ≡ Some rules_then) (sym stands.parts) (last_at eras));
        begins = stands.taken.begins;
        within = stands.taken.within;
        tokens = stands.tokens;
        bound = stands.taken.bound;
        records = stands.taken.records;
        lines = omega (arith, stands.taken.lines, ap length state_is, length-append made (rules_then.closed (rules_then.state_after row.path point.records rules_then.fresh stands.tokens)));
      } in
      let gave : List Made = made_in more content row.path (row.born + length row.ends) point end part in
      let gave_is : gave ≡ flagged rules_then.stamps (made ++ out) = ap (λ (es : List LogRecord). flagged rules_then.stamps (made ++ es)) (sym state_is) in
      let earlier : List Made = stands.earlier ++ gave in
      let before : List Made = all_made eras row stands.earlier stands.tokens in
      let joined : earlier ≡ before ++ flagged rules_then.stamps out = ap (λ (ms : List Made). stands.earlier ++ ms) gave_is ∙ made_goes_on stands.earlier rules_then.stamps made out in
      let at_end : last_point (first_point row) (row.ends ++ end ∷ []) ≡ end = last_point-more (first_point row) row.ends end in
      let P : Rules → Type 0 = λ r. HasTaken r (last_part r adopted) content [] adopted in
      let Q : End → Type 0 = λ e. HasTaken next (part_from next e) content [] adopted in
      let nothing_more : part_output next (last_part next adopted) row.path [] ≡ [] = next_laws.operators.none_made row.path _ next.fresh next_laws.operators.fresh_is_state in
      let R : Rules → Type 0 = λ r. earlier ++ flagged r.stamps (part_output r (last_part r adopted) row.path []) ≡ earlier in
      let all_is : all_made more adopted earlier [] ≡ earlier =
      subst R (sym (last_is eras next)) (ap (λ (es : List LogRecord). earlier ++ flagged next.stamps es) nothing_more ∙ append-nil earlier) in
      let entries : entries_in (all_made more adopted earlier []) ≡ entries_in before ++ out =
      ap entries_in (all_is ∙ joined) ∙ entries-append before (flagged rules_then.stamps out) ∙ ap (λ (es : List LogRecord). entries_in before ++ es) (entries_flagged rules_then.stamps out) in
      let flags : flags_in (all_made more adopted earlier []) ≡ flags_in before ++ map (λ (entry : LogRecord). rules_then.stamps) out =
      ap flags_in (all_is ∙ joined) ∙ flags-append before (flagged rules_then.stamps out) ∙ ap (λ (fs : List Bool). flags_in before ++ fs) (flags_flagged rules_then.stamps out) in
      let count : row.lines + 1 ≡ 1 + length (entries_in before) =
      omega (arith, stands.taken.lines, closed_lines eras content row.path row.born (first_point row) row.ends stands.earlier stands.closed, length-map before (λ (m : Made). m.entry), length-append stands.earlier (flagged rules_then.stamps made), many-flagged rules_then.stamps made) in
      let new : List Mark = lines_closed rules_then time row in
      record {
        file = stands.file;
        owner = record {
          seen_at = stands.owner.seen_at;
          seen = stands.owner.seen;
          saw = stands.owner.saw;
          not_empty = stands.owner.not_empty;
          named_at = stands.owner.named_at;
          named = stands.owner.named;
          under = stands.owner.under;
          rules = stands.owner.rules;
          admitted = era_kept eras next row.born stands.owner.rules stands.owner.admitted;
          included = stands.owner.included;
        };
        begins = stands.begins;
        earlier = earlier;
        closed = closed_more eras next content row.path row.born (row.born + length row.ends) (first_point row) row.ends end stands.earlier part refl
            (closed_longer eras next content row.path row.born (first_point row) row.ends stands.earlier stands.closed);
        parts = omega (arith, stands.parts, length-append row.ends (end ∷ []), count_is eras next);
        tokens = [];
        taken = subst P (sym (last_is eras next)) (subst Q (sym at_end) (taken_anew content adopted end refl stands.taken.within refl refl refl));
        all_lines =
            untimed-append lines new
            ∙ ap (λ (ms : List Mark). ms ++ untimed new) stands.all_lines
            ∙ ap (λ (ms : List Mark). numbered row.id 1 None (entries_in before) ++ ms) (untimed-numbered row.id (row.lines + 1) time out)
            ∙ ap (λ n. numbered row.id 1 None (entries_in before) ++ numbered row.id n None out) count
            ∙ sym (numbered-append row.id 1 None (entries_in before) out)
            ∙ ap (λ (es : List LogRecord). numbered row.id 1 None es) (sym entries);
        times =
            let T : List Bool → Type 0 = λ fs. AreTimed fs (lines ++ new) in
            subst T (sym flags) (timed_append (flags_in before) rules_then.stamps lines row.id (row.lines + 1) time out time_told (times_before lines none) stands.times);
      }

  -- ---- all rows

  abbrev adopt_row : Row → Row
  adopt_row row = row_adopted rules_then next row

  abbrev close_row : Row → List Mark
  close_row row = lines_closed rules_then time row

  none_closed : (id : ℕ) (rows : List Row) → All (λ (row : Row). row.id ≢ id) rows → of_id id (flat_map close_row rows) ≡ []
  none_closed id [] differ = refl
  none_closed id (row ∷ rows) differ =
      of_id-append id (close_row row) (flat_map close_row rows)
      ∙ ap (λ (ms : List Mark). ms ++ of_id id (flat_map close_row rows)) (of_id-others id row.id (row.lines + 1) time (rules_then.closed row.state) (All-head (λ (r : Row). r.id ≢ id) row rows differ))
      ∙ none_closed id rows (All-tail (λ (r : Row). r.id ≢ id) row rows differ)

  abbrev AreFrom : ℕ → List Row → Type 0
  AreFrom n rows = (place : ℕ) (row : Row) → IsRowAt rows place row → row.id ≡ n + place

  all_later : (n id : ℕ) (rows : List Row) → AreFrom n rows → id < n → All (λ (row : Row). row.id ≢ id) rows
  all_later n id [] from below = All-nil (λ (row : Row). row.id ≢ id)
  all_later n id (row ∷ rows) from below =
      All-cons (λ (r : Row). r.id ≢ id) row rows (λ is. omega (arith, is, below, from 0 row refl)) (all_later (n + 1) id rows (λ place other at. from (suc place) other at ∙ omega arith) (omega (arith, below)))

  one_closed : (n : ℕ) (rows : List Row) (place : ℕ) (row : Row) → AreFrom n rows → IsRowAt rows place row → of_id row.id (flat_map close_row rows) ≡ close_row row
  one_closed n [] place row from at = absurd (let never : ◌≡◌ {A = Option Row} None (Some row) = at in cc)
  one_closed n (first ∷ rows) zero row from at =
      let same : first ≡ row = let both : ◌≡◌ {A = Option Row} (Some first) (Some row) = at in cc in
      let id_is : first.id ≡ n = from 0 first refl ∙ omega arith in
      let others = none_closed first.id rows (all_later (n + 1) first.id rows (λ place other there. from (suc place) other there ∙ omega arith) (omega (arith, id_is))) in
      let P : Row → Type 0 = λ r. of_id r.id (flat_map close_row (first ∷ rows)) ≡ close_row r in
      subst P same
      (of_id-append first.id (close_row first) (flat_map close_row rows)
      ∙ ap (λ (ms : List Mark). ms ++ of_id first.id (flat_map close_row rows)) (of_id-numbered first.id (first.lines + 1) time (rules_then.closed first.state))
      ∙ ap (λ (ms : List Mark). close_row first ++ ms) others
      ∙ append-nil (close_row first))
  one_closed n (first ∷ rows) (suc place) row from at =
      let apart : first.id ≢ row.id = λ is. omega (arith, is, from 0 first refl, from (suc place) row at) in
      of_id-append row.id (close_row first) (flat_map close_row rows)
      ∙ ap (λ (ms : List Mark). ms ++ of_id row.id (flat_map close_row rows)) (of_id-others row.id first.id (first.lines + 1) time (rules_then.closed first.state) apart)
      ∙ one_closed (n + 1) rows place row (λ k other there. from (suc k) other there ∙ omega arith) at

  -- the row that was adopted to this one
  record WasAt (rows : List Row) (place : ℕ) (now : Row) : Type 0 where
    row : Row
    at : IsRowAt rows place row
    is : adopt_row row ≡ now

  was_at : (rows : List Row) (place : ℕ) (now : Row) → IsRowAt (map adopt_row rows) place now → WasAt rows place now
  was_at [] place now at = absurd (let never : ◌≡◌ {A = Option Row} None (Some now) = at in cc)
  was_at (row ∷ rows) zero now at = record { row = row; at = refl; is = let both : ◌≡◌ {A = Option Row} (Some (adopt_row row)) (Some now) = at in cc }
  was_at (row ∷ rows) (suc place) now at = let there = was_at rows place now at in record { row = there.row; at = there.at; is = there.is }

  is_at : (rows : List Row) (place : ℕ) (row : Row) → IsRowAt rows place row → IsRowAt (map adopt_row rows) place (adopt_row row)
  is_at [] place row at = absurd (let never : ◌≡◌ {A = Option Row} None (Some row) = at in cc)
  is_at (first ∷ rows) zero row at = let both : ◌≡◌ {A = Option Row} (Some first) (Some row) = at in let same : first ≡ row = cc in ap (λ (r : Row). Some (adopt_row r)) same
  is_at (first ∷ rows) (suc place) row at = is_at rows place row at

  known_closed : (all : List Row) (n : ℕ) (rows : List Row) → ((place : ℕ) (row : Row) → IsRowAt rows place row → IsIdOf all row.id) → All (λ (mark : Mark). IsIdOf all mark.id) (flat_map close_row rows)
  known_closed all n [] known = All-nil (λ (mark : Mark). IsIdOf all mark.id)
  known_closed all n (row ∷ rows) known =
      All-append (λ (mark : Mark). IsIdOf all mark.id) (close_row row) (flat_map close_row rows)
      (All-numbered (IsIdOf all) row.id (row.lines + 1) time (rules_then.closed row.state) (known 0 row refl))
      (known_closed all (n + 1) rows (λ place other at. known (suc place) other at))

  pub lines_go_on : (history : History) (rows : List Row) (next_id : ℕ) (marks : List Mark) → NoneLater observed marks → LinesStand eras history rows next_id marks
      → LinesStand (with_era eras next) history (map adopt_row rows) next_id (marks ++ flat_map close_row rows)
  lines_go_on history rows next_id marks none stand =
      let from : AreFrom 1 rows = λ place row at. stand.ids.ids place row at ∙ omega arith in
      let known : (id : ℕ) → IsIdOf rows id → IsIdOf (map adopt_row rows) id = λ id it. (it.0, adopt_row it.1, is_at rows it.0 it.1 it.2, it.3) in
      record {
        ids = record {
          ids = λ place now at. let was = was_at rows place now at in ap (λ (r : Row). r.id) (sym was.is) ∙ stand.ids.ids place was.row was.at;
          next = omega (arith, stand.ids.next, length-map rows adopt_row);
        };
        each_row = λ place now at.
            let was = was_at rows place now at in
            let row : Row = was.row in
            let mine : of_id row.id (marks ++ flat_map close_row rows) ≡ of_id row.id marks ++ close_row row =
            of_id-append row.id marks (flat_map close_row rows) ∙ ap (λ (ms : List Mark). of_id row.id marks ++ ms) (one_closed 1 rows place row from was.at) in
            let P : Row → Type 0 = λ r. RowStands (with_era eras next) history r (of_id r.id (marks ++ flat_map close_row rows)) in
            let Q : List Mark → Type 0 = λ ms. RowStands (with_era eras next) history (adopt_row row) ms in
            subst P was.is (subst Q (sym mine) (row_goes_on history row (of_id row.id marks) (before_of_id (Some observed) row.id marks none) (stand.each_row place row was.at)));
        fronts_apart = λ place other now other_now at other_at differs prefix.
            let was = was_at rows place now at in
            let other_was = was_at rows other other_now other_at in
            stand.fronts_apart place other was.row other_was.row was.at other_was.at differs
            (subst (λ (b : List ℕ). IsPrefix b other_was.row.front) (sym (ap (λ (r : Row). r.front) was.is)) (subst (λ (b : List ℕ). IsPrefix now.front b) (sym (ap (λ (r : Row). r.front) other_was.is)) prefix));
        no_other_line =
            All-append (λ (mark : Mark). IsIdOf (map adopt_row rows) mark.id) marks (flat_map close_row rows)
            (All-weaker (λ (mark : Mark). IsIdOf rows mark.id) (λ (mark : Mark). IsIdOf (map adopt_row rows) mark.id) (λ mark it. known mark.id it) marks stand.no_other_line)
            (known_closed (map adopt_row rows) 0 rows (λ place row at. (place, adopt_row row, is_at rows place row at, refl)));
      }

  closed_times : (rows : List Row) → All (λ (mark : Mark). mark.observed ≡ time) (flat_map close_row rows)
  closed_times [] = All-nil (λ (mark : Mark). mark.observed ≡ time)
  closed_times (row ∷ rows) =
      All-append (λ (mark : Mark). mark.observed ≡ time) (close_row row) (flat_map close_row rows) (numbered_times row.id (row.lines + 1) time (rules_then.closed row.state)) (closed_times rows)

  none_after : (t : Option ℕ) → t ≡ time → IfSome t (λ u. u ≤ observed)
  none_after t is = subst (λ o. IfSome o (λ u. u ≤ observed)) (sym is) (by rules_then.stamps)
    where
      by : (stamps : Bool) → IfSome (if stamps then Some observed else None) (λ u. u ≤ observed)
      by true = omega arith
      by false = tt

  all_fresh : (rows : List Row) → All (λ (row : Row). IsTrue (next.is_state row.state)) (map adopt_row rows)
  all_fresh [] = All-nil (λ (row : Row). IsTrue (next.is_state row.state))
  all_fresh (row ∷ rows) = All-cons (λ (r : Row). IsTrue (next.is_state r.state)) (adopt_row row) (map adopt_row rows) next_laws.operators.fresh_is_state (all_fresh rows)

  texts_more : texts_of (with_era eras next) ≡ texts_of eras ++ next.settings ∷ []
  texts_more = by eras.first eras.later
    where
      by : (first : Rules) (later : List Rules) → map (λ (rules : Rules). rules.settings) (first ∷ (later ++ next ∷ [])) ≡ map (λ (rules : Rules). rules.settings) (first ∷ later) ++ next.settings ∷ []
      by first [] = refl
      by first (rules ∷ later) = ap (λ (ts : List (List ℕ)). first.settings ∷ ts) (by rules later)

pub adopting_keeps : (eras : Eras) → AreEras eras → (next : Rules) → AreEras (with_era eras next) → (history : History) (before after : Checkpoint) (added : List Mark) (file file_after : List ℕ)
    → Adopts eras next before after added → Lengthens (last_era eras) (take before.output_length file) after added file_after → CheckpointStands eras history before file → CheckpointStands (with_era eras next) history after file_after
adopting_keeps eras laws next more_laws history before after added file file_after adopts longer stands =
    let rules : Rules = last_era eras in
    let marks : List Mark = stands.stands.marks in
    let observed : ℕ = before.observed in
    let went = lines_go_on eras laws next more_laws observed history before.rows before.next_id marks stands.times stands.stands.lines_stand in
    let rows : List Row = map (row_adopted rules next) before.rows in
    let closed : List Mark = flat_map (lines_closed rules (closing_time rules observed)) before.rows in
    let P : List Row → Type 0 = λ rs. LinesStand (with_era eras next) history rs before.next_id (marks ++ closed) in
    let Q : ℕ → Type 0 = λ id. LinesStand (with_era eras next) history after.rows id (marks ++ closed) in
    let R : List Mark → Type 0 = λ ms. LinesStand (with_era eras next) history after.rows after.next_id (marks ++ ms) in
    let lines_stand : LinesStand (with_era eras next) history after.rows after.next_id (marks ++ added) = subst R (sym adopts.lines) (subst Q (sym adopts.next_id) (subst P (sym adopts.rows) went)) in
    let S : List Row → Type 0 = λ rs. KeepStates next rs in
    let T : Rules → Type 0 = λ r. KeepStates r after.rows in
    let U : List Mark → Type 0 = λ ms. NoneLater before.observed (marks ++ ms) in
    record {
      sound = record {
        texts = adopts.texts ∙ ap (λ (ts : List (List ℕ)). ts ++ next.settings ∷ []) stands.sound.texts ∙ sym (texts_more eras laws next more_laws observed);
        states = subst T (sym (last_is eras next)) (subst S (sym adopts.rows) (all_fresh eras laws next more_laws observed before.rows));
        ids = lines_stand.ids;
        long_enough = longer.long_enough;
      };
      stands = record {
        marks = marks ++ added;
        whole_lines = longer.longer ∙ longer_text eras laws (take before.output_length file) marks added stands.stands.whole_lines;
        lines_stand = lines_stand;
      };
      times =
          let V : ℕ → Type 0 = λ t. NoneLater t (marks ++ added) in
          subst V (sym adopts.observed) (subst U (sym adopts.lines)
          (All-append (λ (mark : Mark). IfSome mark.observed (λ t. t ≤ before.observed)) marks closed stands.times
          (All-weaker (λ (mark : Mark). mark.observed ≡ closing_time rules observed) (λ (mark : Mark). IfSome mark.observed (λ t. t ≤ before.observed)) (λ mark is. none_after eras laws next more_laws observed mark.observed is) closed
          (closed_times eras laws next more_laws observed before.rows))));
    }
