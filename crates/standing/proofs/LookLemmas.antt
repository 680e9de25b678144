-- A look, whatever it finds, keeps what stands.
use Rattle.std.proofs.Common.{◌≡◌, ◌≢◌, ℕ, ◌+◌, ◌-◌, ◌<◌, ◌≤◌, List, [], ◌∷◌, ◌++◌, length, take, drop, Bool, true, false, cond, refl, sym, ap, subst, ◌∙◌, inl, inr, arith, length-take, None}
use Rattle.std.specs.Prelude.{slice_set, ◌&&◌, Option}
use Rattle.std.proofs.lemmas.List.{length-set, length_push}
use Rattle.std.proofs.lemmas.Option.{slice_get_within}
use Rattle.entry_model.specs.LogRecord.{LogRecord}
use Rattle.outside.specs.World.{History, bytes, look}
use Rattle.standing.specs.Apart.{Apart, AreApart}
use Rattle.standing.specs.AreRules.{AreRules}
use Rattle.standing.specs.Closed.{Made, flagged, entries_in, flags_in, all_made, AreClosed}
use Rattle.standing.specs.Eras.{Eras, AreEras, last_era}
use Rattle.standing.specs.Look.{Look, content, front, size, piece, ComesAt, start_of, new_row, row_after, lines_added}
use Rattle.standing.specs.Marks.{Mark, of_id, numbered, untimed}
use Rattle.standing.specs.Owner.{IsOwner, MayBegin}
use Rattle.standing.specs.Part.{HasTaken, first_point, last_part}
use Rattle.standing.specs.Prefixes.{IsPrefix}
use Rattle.standing.specs.Poll.{Poll, poll_in, IsPlainIn}
use Rattle.standing.specs.Rows.{Row, IsRowAt}
use Rattle.standing.specs.Rules.{Rules}
use Rattle.standing.specs.Stands.{RowStands, LinesStand, IsIdOf}
use Rattle.standing.specs.Times.{AreTimed, AreBefore}
use Rattle.standing.specs.Tokens.{tokens_of, UpTo}
use Rattle.standing.proofs.EraLemmas.{last_laws, last_size, last_at, only_era}
use Rattle.standing.proofs.MomentLemmas.{at_look, looked_now}
use Rattle.standing.proofs.OwnerLemmas.{fronts_of_owner}
use Rattle.standing.proofs.OutcomeLemmas.{FindsRow, FindsNew}
use Rattle.standing.proofs.PlaceLemmas.{changes_by_set, changes_by_push}
use Rattle.standing.proofs.ReadLemmas.{row_after-read, lines_added-read, IsReady, row_read, same_or_apart}
use Rattle.standing.proofs.RowLemmas.{owner_lasts, begin_lasts, row_lasts}
use Rattle.standing.proofs.StepLemmas.{OtherFront, step_stands}
use Rattle.standing.proofs.TimeLemmas.{before_of_id}
use Rattle.standing.proofs.TokenLemmas.{up_to_none}
use Rattle.standing.proofs.MarkLemmas.{of_id-none}

-- of a file that isn't empty something is seen
seen_filled : (poll : Poll) (here : Look) → AreRules poll.rules → 0 < size here → 0 < length (front poll.rules here)
seen_filled poll here laws filled = omega (arith, laws.front_size, filled, length-take poll.rules.front_size (content here))

both_true : (a b : Bool) → (a && b) ≡ true → (a ≡ true) × (b ≡ true)
both_true true b is = (refl, is)
both_true false b is = let never : false ≡ true = is in absurd (cc)

-- what stays of a row whatever is read
row_after-same : (poll : Poll) (here : Look) (row : Row) → poll.rules.flush_after ≡ 0 → row.offset ≤ size here → ((row_after poll here row).id ≡ row.id) × ((row_after poll here row).front ≡ front poll.rules here)
row_after-same poll here row none within =
    (ap (λ (r : Row). r.id) (row_after-read poll here row none within), ap (λ (r : Row). r.front) (row_after-read poll here row none within))

apart_other : (seen : List ℕ) (row : Row) → 0 < length seen → AreApart row.front seen → OtherFront seen row
apart_other seen row filled apart = record { not_grown = apart.not_grown; not_shrunk = apart.not_shrunk filled }

module _ (eras : Eras) (laws : AreEras eras) (first : Bool) (stamp : Option ℕ) (asked : IsPlainIn eras first stamp) (here : Look) (apart : Apart eras.first.front_size (look here.file ∷ here.moment)) where
  abbrev poll : Poll
  poll = poll_in eras first stamp

  same_front : front poll.rules here ≡ take eras.first.front_size (content here)
  same_front = ap (λ n. take n (content here)) (last_size eras laws)

  row_stays : (row : Row) (lines : List Mark) → RowStands eras here.moment row lines → RowStands eras (look here.file ∷ here.moment) row lines
  row_stays row lines stands = row_lasts eras laws here.moment (look here.file ∷ here.moment) row lines (at_look here.file here.moment) stands

  -- the row that the look finds is that of the file
  pub found_owner : (row : Row) (owner : ℕ) → IsOwner eras here.moment row owner → IsPrefix row.front (front poll.rules here) → owner ≡ here.file
  found_owner row owner owns prefix =
      elim (same_or_apart eras here row owner apart owns) [
        | inl same ↦ same.0
        | inr others ↦ absurd (others.not_grown (subst (λ (b : List ℕ). IsPrefix row.front b) same_front prefix))
      ]

  -- two rows of one file can't be
  one_row : (rows : List Row) (next_id : ℕ) (marks : List Mark) (place k : ℕ) (row other : Row) (file : ℕ) → LinesStand eras here.moment rows next_id marks
      → IsRowAt rows place row → IsRowAt rows k other → k ≢ place → IsOwner eras here.moment row file → IsOwner eras here.moment other file → ⊥
  one_row rows next_id marks place k row other file stand at other_at differs owns owns_other =
      elim (fronts_of_owner eras here.moment row other file owns owns_other) [
        | inl first ↦ stand.fronts_apart place k row other at other_at (λ e. differs (sym e)) first
        | inr second ↦ stand.fronts_apart k place other row other_at at differs second
      ]

  seen_apart : (row : Row) → AreApart row.front (take eras.first.front_size (content here)) → AreApart row.front (front poll.rules here)
  seen_apart row others = subst (λ (b : List ℕ). AreApart row.front b) (sym same_front) others

  module _ (rows : List Row) (next_id : ℕ) (marks : List Mark) (stand : LinesStand eras here.moment rows next_id marks) (before : AreBefore stamp marks) where
    pub known_ready : (place : ℕ) (row : Row) (found : FindsRow poll.rules rows here place row) → (owner : ℕ) (stands : RowStands eras here.moment row (of_id row.id marks)) → stands.file ≡ here.file → IsReady eras here row marks stands.earlier stands.tokens
    known_ready place row found owner stands same =
        let later = at_look here.file here.moment in
        let owns : IsOwner eras (look here.file ∷ here.moment) row here.file =
        owner_lasts eras here.moment (look here.file ∷ here.moment) row here.file later (subst (λ file. IsOwner eras here.moment row file) same stands.owner) in
        record {
          owner = record {
            seen_at = here.moment;
            seen = looked_now here.file here.moment;
            saw = same_front;
            not_empty = seen_filled poll here (last_laws eras laws) found.filled;
            named_at = owns.named_at;
            named = owns.named;
            under = owns.under;
            rules = owns.rules;
            admitted = owns.admitted;
            included = owns.included;
          };
          begins = begin_lasts eras.first here.moment (look here.file ∷ here.moment) here.file row.start later (subst (λ file. MayBegin eras.first here.moment file row.start) same stands.begins);
          closed = subst (λ file. AreClosed eras (bytes here.moment file) row.path row.born (first_point row) row.ends stands.earlier) same stands.closed;
          parts = stands.parts;
          taken = subst (λ file. HasTaken (last_era eras) (last_part (last_era eras) row) (bytes here.moment file) stands.tokens row) same stands.taken;
          lines = stands.all_lines;
          times = stands.times;
        }

    other_fronts : (place : ℕ) (row : Row) (found : FindsRow poll.rules rows here place row) → (k : ℕ) (other : Row) → k ≢ place → IsRowAt rows k other → OtherFront (front poll.rules here) other
    other_fronts place row found k other differs at =
        let mine = stand.each_row place row found.at in
        let theirs = stand.each_row k other at in
        let same : mine.file ≡ here.file = found_owner row mine.file mine.owner found.prefix in
        elim (same_or_apart eras here other theirs.file apart theirs.owner) [
          | inl is ↦ absurd (one_row rows next_id marks place k row other here.file stand found.at at differs
              (subst (λ file. IsOwner eras here.moment row file) same mine.owner)
              (subst (λ file. IsOwner eras here.moment other file) is.0 theirs.owner))
          | inr others ↦ apart_other (front poll.rules here) other (seen_filled poll here (last_laws eras laws) found.filled) (seen_apart other others)
        ]

    pub known_stands : (place : ℕ) (row : Row) (found : FindsRow poll.rules rows here place row) → LinesStand eras (look here.file ∷ here.moment) (slice_set rows place (row_after poll here row)) next_id (marks ++ lines_added poll here row)
    known_stands place row found =
        let mine = stand.each_row place row found.at in
        let same : mine.file ≡ here.file = found_owner row mine.file mine.owner found.prefix in
        let ready = known_ready place row found mine.file mine same in
        let read = row_after-same poll here row asked.no_flush ready.taken.within in
        let next : Row = row_after poll here row in
        let changes = changes_by_set rows place next row found.at in
        let made : List LogRecord = poll.rules.made row.path row.records row.state (tokens_of poll.rules (piece here row.offset)) in
        step_stands eras here.moment (look here.file ∷ here.moment) rows (slice_set rows place next) next_id next_id place (row.lines + 1) next marks (lines_added poll here row) stamp made
        row_stays stand changes
        (record {
          ids = λ k other at. elim (changes.cases k other at) [
            | inl is ↦ ap (λ (r : Row). r.id) is.1 ∙ read.0 ∙ stand.ids.ids place row found.at ∙ ap (λ n. n + 1) (sym is.0)
            | inr is ↦ stand.ids.ids k other is.1
          ];
          next = stand.ids.next ∙ ap (λ n. n + 1) (sym (length-set rows place next));
        })
        (lines_added-read poll here row asked.no_flush ready.taken.within ∙ ap (λ id. numbered id (row.lines + 1) stamp made) (sym read.0))
        (let P : ℕ → Type 0 = λ id. RowStands eras (look here.file ∷ here.moment) next (of_id id (marks ++ lines_added poll here row)) in
        subst P (sym read.0) (row_read eras laws first stamp asked.is_poll.stamped asked.no_flush here row marks mine.earlier mine.tokens ready (before_of_id stamp row.id marks before)))
        (λ k other differs at. subst (λ (b : List ℕ). OtherFront b other) (sym read.1) (other_fronts place row found k other differs at))

    new_fronts : (found : FindsNew poll.rules rows here) → (k : ℕ) (other : Row) → IsRowAt rows k other → OtherFront (front poll.rules here) other
    new_fronts found k other at =
        let theirs = stand.each_row k other at in
        elim (same_or_apart eras here other theirs.file apart theirs.owner) [
          | inl is ↦ absurd (found.none k other at (subst (λ (b : List ℕ). IsPrefix other.front b) (sym same_front) is.1))
          | inr others ↦ apart_other (front poll.rules here) other (seen_filled poll here (last_laws eras laws) found.filled) (seen_apart other others)
        ]

    at_end : (first && poll.rules.from_end) ≡ true → eras.first.from_end ≡ true
    at_end is =
        let both = both_true first poll.rules.from_end is in
        ap (λ (rules : Rules). rules.from_end) (sym (only_era eras (asked.is_poll.first_era both.0))) ∙ both.1

    may_begin : MayBegin eras.first (look here.file ∷ here.moment) here.file (start_of poll here)
    may_begin =
        let P : Bool → Type 0 = λ t. (poll.first && poll.rules.from_end) ≡ t → MayBegin eras.first (look here.file ∷ here.moment) here.file (cond t (size here) 0) in
        let all : P (poll.first && poll.rules.from_end) = elim (poll.first && poll.rules.from_end) as P [
          | true ↦ λ is. inr (record { from_end = at_end is; moment = here.moment; seen = looked_now here.file here.moment; length_then = refl })
          | false ↦ λ _. inl refl
        ] in
        all refl

    pub start_within : start_of poll here ≤ size here
    start_within =
        let P : Bool → Type 0 = λ t. cond t (size here) 0 ≤ size here in
        elim (poll.first && poll.rules.from_end) as P [ true ↦ omega arith | false ↦ omega arith ]

    pub new_ready : (found : FindsNew poll.rules rows here) (history : History) (comes : ComesAt poll.rules here history) → IsReady eras here (new_row poll here next_id) marks [] []
    new_ready found history comes =
        let start : ℕ = start_of poll here in
        let of_rules = last_laws eras laws in
        let none : poll.rules.made here.path 0 poll.rules.fresh [] ≡ [] = of_rules.operators.none_made here.path 0 poll.rules.fresh of_rules.operators.fresh_is_state in
        let row : Row = new_row poll here next_id in
        let nothing : all_made eras row [] [] ≡ [] = ap (λ (es : List LogRecord). flagged poll.rules.stamps es) none in
        let unused : IsIdOf rows next_id → ⊥ = λ known. omega (arith, stand.ids.next, stand.ids.ids known.0 known.1 known.2, known.3, slice_get_within rows known.0 known.1 known.2) in
        let mine : of_id next_id marks ≡ [] = of_id-none (IsIdOf rows) next_id marks unused stand.no_other_line in
        record {
          owner = record {
            seen_at = here.moment;
            seen = looked_now here.file here.moment;
            saw = same_front;
            not_empty = seen_filled poll here (last_laws eras laws) found.filled;
            named_at = here.moment;
            named = looked_now here.file here.moment;
            under = comes.under;
            rules = last_era eras;
            admitted = last_at eras;
            included = comes.included;
          };
          begins = may_begin;
          closed = refl;
          parts = omega arith;
          taken = record {
            begins = omega arith;
            within = start_within;
            bound =
                let P : ℕ → Type 0 = λ n. UpTo poll.rules (drop start (content here)) n [] in
                let none_past : 0 ≡ start - start = omega arith in
                subst P none_past (up_to_none poll.rules of_rules.tokens (drop start (content here)));
            records = omega arith;
            lines = let many : length (poll.rules.made here.path 0 poll.rules.fresh []) ≡ 0 = ap length none in omega (arith, many);
            state = sym (of_rules.operators.state_stays here.path 0 poll.rules.fresh of_rules.operators.fresh_is_state);
          };
          lines = ap untimed mine ∙ ap (λ (ms : List Made). numbered next_id 1 None (entries_in ms)) (sym nothing);
          times =
              let P : List Made → Type 0 = λ ms. AreTimed (flags_in ms) (of_id next_id marks) in
              let Q : List Mark → Type 0 = λ ms. AreTimed [] ms in
              let at_first : AreTimed [] [] = record { have = tt; never_fall = tt } in
              subst P (sym nothing) (subst Q (sym mine) at_first);
        }

    pub new_stands : (found : FindsNew poll.rules rows here) (history : History) (comes : ComesAt poll.rules here history)
        → LinesStand eras (look here.file ∷ here.moment) (rows ++ row_after poll here (new_row poll here next_id) ∷ []) (next_id + 1) (marks ++ lines_added poll here (new_row poll here next_id))
    new_stands found history comes =
        let row : Row = new_row poll here next_id in
        let ready = new_ready found history comes in
        let read = row_after-same poll here row asked.no_flush ready.taken.within in
        let next : Row = row_after poll here row in
        let changes = changes_by_push rows next in
        let made : List LogRecord = poll.rules.made row.path row.records row.state (tokens_of poll.rules (piece here row.offset)) in
        step_stands eras here.moment (look here.file ∷ here.moment) rows (rows ++ next ∷ []) next_id (next_id + 1) (length rows) (row.lines + 1) next marks (lines_added poll here row) stamp made
        row_stays stand changes
        (record {
          ids = λ k other at. elim (changes.cases k other at) [
            | inl is ↦ ap (λ (r : Row). r.id) is.1 ∙ read.0 ∙ stand.ids.next ∙ ap (λ n. n + 1) (sym is.0)
            | inr is ↦ stand.ids.ids k other is.1
          ];
          next = ap (λ n. n + 1) (stand.ids.next ∙ sym (length_push rows next));
        })
        (lines_added-read poll here row asked.no_flush ready.taken.within ∙ ap (λ id. numbered id (row.lines + 1) stamp made) (sym read.0))
        (let P : ℕ → Type 0 = λ id. RowStands eras (look here.file ∷ here.moment) next (of_id id (marks ++ lines_added poll here row)) in
        subst P (sym read.0) (row_read eras laws first stamp asked.is_poll.stamped asked.no_flush here row marks [] [] ready (before_of_id stamp row.id marks before)))
        (λ k other differs at. subst (λ (b : List ℕ). OtherFront b other) (sym read.1) (new_fronts found k other at))
