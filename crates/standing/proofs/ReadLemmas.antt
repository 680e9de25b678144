-- What one look makes of the row of its file.
use Rattle.std.proofs.Common.{◌≡◌, ◌⊎◌, ℕ, ◌+◌, ◌-◌, ◌<◌, ◌≤◌, List, [], ◌∷◌, ◌++◌, length, take, drop, min, sym, ap, subst, ◌∙◌, inl, inr, arith, length-take, None, map, length-append}
use Rattle.std.proofs.lemmas.Bool.{cases_eq, le-ltb, cond-false}
use Rattle.std.proofs.lemmas.List.{take-append-drop}
use Rattle.std.specs.Prelude.{nat_lt, Bool, Option, is_some}
use Rattle.std.proofs.lemmas.List.{length-map}
use Rattle.entry_model.specs.LogRecord.{LogRecord}
use Rattle.outside.specs.World.{bytes, look}
use Rattle.standing.specs.Apart.{Apart, AreApart}
use Rattle.standing.specs.Closed.{Made, AreClosed, all_made, entries_in, flags_in, flagged}
use Rattle.standing.specs.Eras.{Eras, AreEras, era_count, last_era}
use Rattle.standing.specs.Limits.{most_taken}
use Rattle.standing.specs.Look.{Look, content, front, size, piece, fed, lines_of, Taken, all_taken, row_after, lines_added}
use Rattle.standing.specs.Marks.{Mark, of_id, numbered, untimed}
use Rattle.standing.specs.Owner.{IsOwner, MayBegin}
use Rattle.standing.specs.Part.{Part, HasTaken, part_output, first_point, last_part}
use Rattle.standing.specs.Prefixes.{IsPrefix}
use Rattle.standing.specs.Poll.{Poll, poll_in}
use Rattle.standing.specs.Rows.{Row}
use Rattle.standing.specs.Rules.{Rules}
use Rattle.standing.specs.Stands.{RowStands}
use Rattle.standing.specs.Times.{AreTimed, AreBefore}
use Rattle.standing.specs.Tokens.{tokens_of}
use Rattle.standing.proofs.MarkLemmas.{untimed-append, untimed-numbered, of_id-append, of_id-numbered, numbered-append}
use Rattle.standing.proofs.MomentLemmas.{look_later, looked_now, bytes_grow}
use Rattle.standing.proofs.PrefixLemmas.{prefix-take, prefix-append}
use Rattle.standing.proofs.EraLemmas.{last_laws}
use Rattle.standing.proofs.PartLemmas.{closed_lines, entries_flagged, flags_flagged, entries-append, flags-append, many-flagged, made_goes_on}
use Rattle.standing.proofs.TimeLemmas.{timed_append}
use Rattle.standing.proofs.TakenLemmas.{taken_plain}
use Rattle.standing.proofs.RowLemmas.{taken_fed, output_goes_on}

abbrev pub with_front : List ℕ → Row → Row
with_front seen row = record row { front = seen }

pub row_after-read : (poll : Poll) (here : Look) (row : Row) → poll.rules.flush_after ≡ 0 → row.offset ≤ size here → row_after poll here row ≡ fed poll.rules (piece here row.offset) (with_front (front poll.rules here) row)
unfolding row_after
row_after-read poll here row none within =
    let grown : Row = with_front (front poll.rules here) row in
    cond-false (nat_lt (size here) row.offset) grown (all_taken poll here grown).row (le-ltb (size here) row.offset within) ∙ ap (λ (t : Taken). t.row) (taken_plain poll here grown none)

pub lines_added-read : (poll : Poll) (here : Look) (row : Row) → poll.rules.flush_after ≡ 0 → row.offset ≤ size here → lines_added poll here row ≡ lines_of poll (piece here row.offset) row
unfolding lines_added
lines_added-read poll here row none within =
    cond-false (nat_lt (size here) row.offset) [] (all_taken poll here row).lines (le-ltb (size here) row.offset within) ∙ ap (λ (t : Taken). t.lines) (taken_plain poll here row none)

-- the bytes behind the piece
abbrev behind : Look → ℕ → List ℕ
behind here offset = drop (min here.end (offset + most_taken) - offset) (drop offset (content here))

piece_stands : (here : Look) (offset : ℕ) → drop offset (content here) ≡ piece here offset ++ behind here offset
piece_stands here offset = sym (take-append-drop (min here.end (offset + most_taken) - offset) (drop offset (content here)))

-- what is known of the row before its file is read on
pub record IsReady (eras : Eras) (here : Look) (row : Row) (marks : List Mark) (earlier : List Made) (tokens : List (List ℕ)) : Type 0 where
  pub owner : IsOwner eras (look here.file ∷ here.moment) (with_front (front (last_era eras) here) row) here.file
  pub begins : MayBegin eras.first (look here.file ∷ here.moment) here.file row.start
  pub closed : AreClosed eras (content here) row.path row.born (first_point row) row.ends earlier
  pub parts : row.born + length row.ends ≡ era_count eras
  pub taken : HasTaken (last_era eras) (last_part (last_era eras) row) (content here) tokens row
  pub lines : untimed (of_id row.id marks) ≡ numbered row.id 1 None (entries_in (all_made eras row earlier tokens))
  pub times : AreTimed (flags_in (all_made eras row earlier tokens)) (of_id row.id marks)

module _ (eras : Eras) (laws : AreEras eras) (first : Bool) (stamp : Option ℕ) (stamped : is_some stamp ≡ (last_era eras).stamps) (none : (last_era eras).flush_after ≡ 0) where
  abbrev poll : Poll
  poll = poll_in eras first stamp

  read_on : (here : Look) (row : Row) (marks : List Mark) (earlier : List Made) (tokens : List (List ℕ)) → IsReady eras here row marks earlier tokens → AreBefore stamp (of_id row.id marks)
      → RowStands eras (look here.file ∷ here.moment) (fed (last_era eras) (piece here row.offset) (with_front (front (last_era eras) here) row)) (of_id row.id (marks ++ lines_of poll (piece here row.offset) row))
  read_on here row marks earlier tokens ready before =
      let rules : Rules = last_era eras in
      let of_rules = last_laws eras laws in
      let part : Part = last_part rules row in
      let more : List (List ℕ) = tokens_of rules (piece here row.offset) in
      let made : List LogRecord = rules.made row.path row.records row.state more in
      let grown : Row = with_front (front rules here) row in
      let given : List LogRecord = part_output rules part row.path tokens in
      let goes = output_goes_on rules of_rules part (content here) tokens more row of_rules.operators.fresh_is_state ready.taken in
      let all : all_made eras row earlier (tokens ++ more) ≡ all_made eras row earlier tokens ++ flagged rules.stamps made =
      ap (λ (es : List LogRecord). earlier ++ flagged rules.stamps es) goes ∙ made_goes_on earlier rules.stamps given made in
      let entries : entries_in (all_made eras row earlier (tokens ++ more)) ≡ entries_in (all_made eras row earlier tokens) ++ made =
      ap entries_in all ∙ entries-append (all_made eras row earlier tokens) (flagged rules.stamps made) ∙ ap (λ (es : List LogRecord). entries_in (all_made eras row earlier tokens) ++ es) (entries_flagged rules.stamps made) in
      let flags : flags_in (all_made eras row earlier (tokens ++ more)) ≡ flags_in (all_made eras row earlier tokens) ++ map (λ (entry : LogRecord). rules.stamps) made =
      ap flags_in all ∙ flags-append (all_made eras row earlier tokens) (flagged rules.stamps made) ∙ ap (λ (fs : List Bool). flags_in (all_made eras row earlier tokens) ++ fs) (flags_flagged rules.stamps made) in
      let count : row.lines + 1 ≡ 1 + length (entries_in (all_made eras row earlier tokens)) =
      omega (arith, ready.taken.lines, closed_lines eras (content here) row.path row.born (first_point row) row.ends earlier ready.closed, length-map (all_made eras row earlier tokens) (λ (m : Made). m.entry), length-append earlier (flagged rules.stamps given), many-flagged rules.stamps given) in
      let new : List Mark = numbered row.id (row.lines + 1) stamp made in
      let here_all : of_id row.id (marks ++ new) ≡ of_id row.id marks ++ new = of_id-append row.id marks new ∙ ap (λ (ms : List Mark). of_id row.id marks ++ ms) (of_id-numbered row.id (row.lines + 1) stamp made) in
      let taken : HasTaken rules part (content here) tokens grown = record {
        begins = ready.taken.begins;
        within = ready.taken.within;
        bound = ready.taken.bound;
        records = ready.taken.records;
        lines = ready.taken.lines;
        state = ready.taken.state;
      } in
      record {
        file = here.file;
        owner = record {
          seen_at = ready.owner.seen_at;
          seen = ready.owner.seen;
          saw = ready.owner.saw;
          not_empty = ready.owner.not_empty;
          named_at = ready.owner.named_at;
          named = ready.owner.named;
          under = ready.owner.under;
          rules = ready.owner.rules;
          admitted = ready.owner.admitted;
          included = ready.owner.included;
        };
        begins = ready.begins;
        earlier = earlier;
        closed = ready.closed;
        parts = ready.parts;
        tokens = tokens ++ more;
        taken = taken_fed rules of_rules part (content here) (piece here row.offset) (behind here row.offset) tokens grown of_rules.operators.fresh_is_state (piece_stands here row.offset) taken;
        all_lines =
            ap untimed here_all
            ∙ untimed-append (of_id row.id marks) new
            ∙ ap (λ (ms : List Mark). ms ++ untimed new) ready.lines
            ∙ ap (λ (ms : List Mark). numbered row.id 1 None (entries_in (all_made eras row earlier tokens)) ++ ms) (untimed-numbered row.id (row.lines + 1) stamp made)
            ∙ ap (λ n. numbered row.id 1 None (entries_in (all_made eras row earlier tokens)) ++ numbered row.id n None made) count
            ∙ sym (numbered-append row.id 1 None (entries_in (all_made eras row earlier tokens)) made)
            ∙ ap (λ (es : List LogRecord). numbered row.id 1 None es) (sym entries);
        times =
            let P : List Bool → Type 0 = λ fs. AreTimed fs (of_id row.id (marks ++ new)) in
            let Q : List Mark → Type 0 = λ ms. AreTimed (flags_in (all_made eras row earlier tokens) ++ map (λ (entry : LogRecord). rules.stamps) made) ms in
            subst P (sym flags) (subst Q (sym here_all) (timed_append (flags_in (all_made eras row earlier tokens)) rules.stamps (of_id row.id marks) row.id (row.lines + 1) stamp made stamped before ready.times));
      }

  pub row_read : (here : Look) (row : Row) (marks : List Mark) (earlier : List Made) (tokens : List (List ℕ)) → IsReady eras here row marks earlier tokens → AreBefore stamp (of_id row.id marks)
      → RowStands eras (look here.file ∷ here.moment) (row_after poll here row) (of_id row.id (marks ++ lines_added poll here row))
  row_read here row marks earlier tokens ready before =
      let P : Row → Type 0 = λ r. RowStands eras (look here.file ∷ here.moment) r (of_id row.id (marks ++ lines_added poll here row)) in
      let Q : List Mark → Type 0 = λ ms. RowStands eras (look here.file ∷ here.moment) (fed poll.rules (piece here row.offset) (with_front (front poll.rules here) row)) (of_id row.id (marks ++ ms)) in
      subst P (sym (row_after-read poll here row none ready.taken.within)) (subst Q (sym (lines_added-read poll here row none ready.taken.within)) (read_on here row marks earlier tokens ready before))

-- The owner of a row is the file that is looked at, and then its front begins what is seen; or it is another, and then
-- the two are apart.
pub same_or_apart : (eras : Eras) (here : Look) (row : Row) (owner : ℕ) → Apart eras.first.front_size (look here.file ∷ here.moment) → IsOwner eras here.moment row owner
    → ((owner ≡ here.file) × IsPrefix row.front (take eras.first.front_size (content here))) ⊎ AreApart row.front (take eras.first.front_size (content here))
same_or_apart eras here row owner apart owns =
    elim (cases_eq owner here.file) [
      | inl same ↦
          let before = bytes_grow owns.seen_at here.moment owner (look_later here.moment owner owns.seen_at owns.seen) in
          let begins_with : IsPrefix (bytes owns.seen_at owner) (bytes here.moment owner) = subst (λ (b : List ℕ). IsPrefix (bytes owns.seen_at owner) b) (sym before.1) (prefix-append (bytes owns.seen_at owner) before.0) in
          let fronts : IsPrefix (take eras.first.front_size (bytes owns.seen_at owner)) (take eras.first.front_size (bytes here.moment owner)) = prefix-take eras.first.front_size (bytes owns.seen_at owner) (bytes here.moment owner) begins_with in
          let P : List ℕ → Type 0 = λ b. IsPrefix b (take eras.first.front_size (bytes here.moment owner)) in
          let Q : ℕ → Type 0 = λ file. IsPrefix row.front (take eras.first.front_size (bytes here.moment file)) in
          inl (same, subst Q same (subst P (sym owns.saw) fronts))
      | inr differs ↦
          let filled : 0 < length (bytes owns.seen_at owner) = omega (arith, owns.not_empty, ap length owns.saw, length-take eras.first.front_size (bytes owns.seen_at owner)) in
          let found : AreApart (take eras.first.front_size (bytes owns.seen_at owner)) (take eras.first.front_size (content here)) = apart here.file owner here.moment owns.seen_at (looked_now here.file here.moment) owns.seen differs filled in
          inr (subst (λ (b : List ℕ). AreApart b (take eras.first.front_size (content here))) (sym owns.saw) found)
    ]
