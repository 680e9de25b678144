-- What a look makes of the rows, by what was found of its file.
use Rattle.std.proofs.Common.{◌≡◌, ℕ, ◌+◌, ◌<◌, ◌≤◌, ◌==◌, List, [], ◌∷◌, ◌++◌, length, true, false, not, ◌||◌, ◌&&◌, refl, sym, ap, subst, ◌∙◌, arith, eq-eqb}
use Rattle.std.proofs.lemmas.Bool.{cond-true, ne_eqb, lt-ltb, le-ltb, and_right, or_from, or_left, or_right}
use Rattle.std.proofs.lemmas.List.{length-set, length_push}
use Rattle.std.proofs.Math.Seq.{set-append_seam}
use Rattle.std.specs.Prelude.{None, Some, slice_get, slice_set, nat_lt}
use Rattle.file_tracker.specs.Places.{place_of, with_front}
use Rattle.file_tracker.specs.Limits.{row_limit}
use Rattle.standing.proofs.FindLemmas.{is_skipped, is_nothing, is_compressed_file, is_row, is_new, is_no_room}
use Rattle.standing.specs.Poll.{Poll}
use Rattle.standing.specs.Limits.{most_taken, is_compressed}
use Rattle.standing.specs.Look.{all_taken, Look, Outcome, Progress, skips, finds_nothing, finds_compressed, finds_no_room, finds_new, finds_row, front, size, piece, new_row, row_after, lines_added, outcome, after_look, progress_after, ReadsOn}
use Rattle.standing.specs.Marks.{Mark}
use Rattle.standing.specs.Pass.{is_short}
use Rattle.standing.specs.Rows.{Row}
use Rattle.standing.specs.Sums.{is_filled}
use Rattle.file_pass.specs.Flushed.{row_read, lines_read}
use Rattle.file_pass.specs.Gain.{Gain, no_gain, one_file, one_if, with_taken}
use Rattle.file_pass.specs.LookTaken.{IsGainOf, TakesLook}
use Rattle.file_pass.specs.Seen.{progress_of}
use Rattle.file_pass.specs.Step.{step}
use Rattle.file_pass.specs.declared.ending.Ending.{Ending}
use Rattle.file_pass.specs.declared.ending.Ending.TheVariants.{Whole}
use Rattle.file_pass.proofs.FlushLemmas.{row_after_read, row_taken, lines_added_read, lines_taken}
use Rattle.file_pass.proofs.Listing.{set_twice}

pub filled_some : (here : Look) → 0 < size here → is_filled here ≡ true
filled_some here some = ap not (ne_eqb (size here) 0 (λ e. omega (arith, e, some)))

filled_none : (here : Look) → size here ≡ 0 → is_filled here ≡ false
filled_none here none = ap not (eq-eqb (size here) 0 none)

pub short_not : (here : Look) → here.skipped ≡ false → size here ≤ here.end → is_short here ≡ false
short_not here read all = or_from here.skipped (nat_lt here.end (size here)) read (le-ltb here.end (size here) all)

short_skipped : (here : Look) → here.skipped ≡ true → is_short here ≡ true
short_skipped here is = or_left here.skipped (nat_lt here.end (size here)) is

pub short_end : (here : Look) → here.end < size here → is_short here ≡ true
short_end here early = or_right here.skipped (nat_lt here.end (size here)) (lt-ltb here.end (size here) early)

same_progress : {rows other_rows : List Row} {id other_id : ℕ} {added other_added : List Mark} → rows ≡ other_rows → id ≡ other_id → added ≡ other_added
    → ◌≡◌ {A = Progress} (record { rows = rows; next_id = id; added = added }) (record { rows = other_rows; next_id = other_id; added = other_added })
same_progress a b c = cc

row_after-short : (poll : Poll) (here : Look) (row : Row) → size here < row.offset → row_after poll here row ≡ record row { front = front poll.rules here }
unfolding row_after
row_after-short poll here row short = cond-true (nat_lt (size here) row.offset) (record row { front = front poll.rules here }) (all_taken poll here (record row { front = front poll.rules here })).row (lt-ltb (size here) row.offset short)

lines_added-short : (poll : Poll) (here : Look) (row : Row) → size here < row.offset → lines_added poll here row ≡ []
unfolding lines_added
lines_added-short poll here row short = cond-true (nat_lt (size here) row.offset) [] (all_taken poll here row).lines (lt-ltb (size here) row.offset short)

-- what more there is past an offset
more_not : (here : Look) (offset : ℕ) → size here ≤ offset + most_taken → (here.end == size here && nat_lt (offset + most_taken) (size here)) ≡ false
more_not here offset within = and_right (here.end == size here) (nat_lt (offset + most_taken) (size here)) (le-ltb (offset + most_taken) (size here) within)

-- whatever was read
pub look_with : (poll : Poll) (here : Look) (before after : List Row) (added : List Mark) (gain : Gain) (count : ℕ) → TakesLook poll here (step before after gain added) → TakesLook poll here (step before after (with_taken count gain) added)
look_with poll here before after added gain count taken = record {
  end_within = taken.end_within;
  reads_on = taken.reads_on;
  leads_to = taken.leads_to;
  sums = record {
    files = taken.sums.files;
    lines = taken.sums.lines;
    left = taken.sums.left;
    gone = taken.sums.gone;
    failed = taken.sums.failed;
    compressed = taken.sums.compressed;
    shrunk = taken.sums.shrunk;
    full = taken.sums.full;
  };
}

-- the look ends where reading did
pub record EndsAt (here : Look) (ending : Ending) : Type 0 where
  pub within : here.end ≤ size here
  pub whole : ending ≡ Whole → here.end ≡ size here
  pub partly : (ending ≡ Whole → ⊥) → here.end < size here

module _ (poll : Poll) (here : Look) (before : List Row) where
  -- an outcome that leaves the rows
  leaves : (found : Outcome) (gain : Gain) → outcome poll.rules before here ≡ found → here.end ≤ size here → ReadsOn poll here found
      → progress_after poll here (progress_of before []) found ≡ progress_of before [] → IsGainOf poll here found [] gain → TakesLook poll here (step before before gain [])
  leaves found gain is within reads same sums = record {
    end_within = within;
    reads_on = subst (λ (o : Outcome). ReadsOn poll here o) (sym is) reads;
    leads_to = ap (λ (o : Outcome). progress_after poll here (progress_of before []) o) is ∙ same;
    sums = subst (λ (o : Outcome). IsGainOf poll here o [] gain) (sym is) sums;
  }

  pub takes_nothing : here.skipped ≡ false → size here ≡ 0 → here.end ≡ 0 → TakesLook poll here (step before before no_gain [])
  takes_nothing read none end =
      leaves finds_nothing no_gain (is_nothing poll.rules before here read none) (omega (arith, end)) tt refl
      (record {
        files = sym (ap one_if (filled_none here none));
        lines = refl;
        left = refl;
        gone = refl;
        failed = sym (ap one_if (short_not here read (omega (arith, none))));
        compressed = refl;
        shrunk = refl;
        full = refl;
      })

  pub takes_unread : here.skipped ≡ true → 0 < size here → here.end ≤ size here → TakesLook poll here (step before before (record one_file { failed = 1 }) [])
  takes_unread unread some within =
      leaves skips (record one_file { failed = 1 }) (is_skipped poll.rules before here unread) within tt refl
      (record {
        files = sym (ap one_if (filled_some here some));
        lines = refl;
        left = refl;
        gone = refl;
        failed = sym (ap one_if (short_skipped here unread));
        compressed = refl;
        shrunk = refl;
        full = refl;
      })

  module _ (read : here.skipped ≡ false) (some : 0 < size here) where
    pub takes_compressed : is_compressed (front poll.rules here) ≡ true → here.end ≡ size here → TakesLook poll here (step before before (record one_file { compressed = 1 }) [])
    takes_compressed is end =
        leaves finds_compressed (record one_file { compressed = 1 }) (is_compressed_file poll.rules before here read some is) (omega (arith, end)) tt refl
        (record {
          files = sym (ap one_if (filled_some here some));
          lines = refl;
          left = refl;
          gone = refl;
          failed = sym (ap one_if (short_not here read (omega (arith, end))));
          compressed = refl;
          shrunk = refl;
          full = refl;
        })

    module _ (plain : is_compressed (front poll.rules here) ≡ false) where
      pub takes_full : place_of (front poll.rules here) before ≡ None → row_limit ≤ length before → here.end ≡ size here → TakesLook poll here (step before before (record one_file { full = 1 }) [])
      takes_full none all end =
          leaves finds_no_room (record one_file { full = 1 })
          (is_no_room poll.rules before here read some plain none all) (omega (arith, end)) tt refl
          (record {
            files = sym (ap one_if (filled_some here some));
            lines = refl;
            left = refl;
            gone = refl;
            failed = sym (ap one_if (short_not here read (omega (arith, end))));
            compressed = refl;
            shrunk = refl;
            full = refl;
          })

      -- the file of a row that stands there is read on, or is too short
      module _ (place : ℕ) (row : Row) (at : slice_get before place ≡ Some row) (known : place_of (front poll.rules here) before ≡ Some place) where
        pub is_known : outcome poll.rules before here ≡ finds_row place row
        is_known = is_row poll.rules before here place row read some plain known at

        pub added_known : row.offset ≤ size here → here.end ≡ size here → (after_look poll here (progress_of before [])).added ≡ lines_read poll (size here) Whole (piece here row.offset) row
        added_known from end =
            ap (λ (o : Outcome). (progress_after poll here (progress_of before []) o).added) is_known ∙ lines_added_read poll here row from
            ∙ lines_taken poll here row Whole from (λ _. end) (λ not. absurd (not refl))

        pub takes_short : size here < row.offset → here.end ≡ size here
            → TakesLook poll here (step before (slice_set before place (with_front (front poll.rules here) row)) (record one_file { shrunk = 1 }) [])
        takes_short short end = record {
          end_within = omega (arith, end);
          reads_on = subst (λ (o : Outcome). ReadsOn poll here o) (sym is_known) (λ le. absurd (omega (arith, le, short)));
          leads_to =
              ap (λ (o : Outcome). progress_after poll here (progress_of before []) o) is_known
              ∙ same_progress
              (ap (slice_set before place) (row_after-short poll here row short))
              (ap (λ n. n + 1) (sym (length-set before place (with_front (front poll.rules here) row))))
              (lines_added-short poll here row short);
          sums = subst (λ (o : Outcome). IsGainOf poll here o [] (record one_file { shrunk = 1 })) (sym is_known)
              (record {
                files = sym (ap one_if (filled_some here some));
                lines = refl;
                left = sym (ap one_if (more_not here row.offset (omega (arith, short))));
                gone = refl;
                failed = sym (ap one_if (short_not here read (omega (arith, end))));
                compressed = refl;
                shrunk = sym (ap one_if (lt-ltb (size here) row.offset short));
                full = refl;
              });
        }

        pub takes_on : (ending : Ending) (given : List ℕ) (after : List Row) (added : List Mark) (gain : Gain) → row.offset ≤ size here → EndsAt here ending → row.offset ≤ here.end → given ≡ piece here row.offset
            → after ≡ slice_set (slice_set before place (with_front (front poll.rules here) row)) place (row_read poll.rules (size here) ending given (with_front (front poll.rules here) row))
            → added ≡ lines_read poll (size here) ending given row → IsGainOf poll here (finds_row place row) added gain → TakesLook poll here (step before after gain added)
        takes_on ending given after added gain from ends reaches are rows lines sums = record {
          end_within = ends.within;
          reads_on = subst (λ (o : Outcome). ReadsOn poll here o) (sym is_known) (λ _. reaches);
          leads_to =
              let grown : Row = with_front (front poll.rules here) row in
              ap (λ (o : Outcome). progress_after poll here (progress_of before []) o) is_known
              ∙ same_progress
              (ap (slice_set before place)
              (row_after_read poll here row from ∙ row_taken poll here grown ending from ends.whole ends.partly ∙ ap (λ (g : List ℕ). row_read poll.rules (size here) ending g grown) (sym are))
              ∙ sym (set_twice before place grown (row_read poll.rules (size here) ending given grown))
              ∙ sym rows)
              (omega (arith, ap length rows, length-set (slice_set before place grown) place (row_read poll.rules (size here) ending given grown), length-set before place grown))
              (lines_added_read poll here row from ∙ lines_taken poll here row ending from ends.whole ends.partly ∙ ap (λ (g : List ℕ). lines_read poll (size here) ending g row) (sym are) ∙ sym lines);
          sums = subst (λ (o : Outcome). IsGainOf poll here o added gain) (sym is_known) sums;
        }

      pub is_fresh : place_of (front poll.rules here) before ≡ None → length before < row_limit → outcome poll.rules before here ≡ finds_new
      is_fresh none room = is_new poll.rules before here read some plain none room

      pub added_new : (row : Row) → row ≡ new_row poll here (length before + 1) → place_of (front poll.rules here) before ≡ None → length before < row_limit → row.offset ≤ size here → here.end ≡ size here
          → (after_look poll here (progress_of before [])).added ≡ lines_read poll (size here) Whole (piece here row.offset) row
      added_new row is none room from end =
          let fresh : Row = new_row poll here (length before + 1) in
          let new_is : outcome poll.rules before here ≡ finds_new = is_fresh none room in
          let begins : fresh.offset ≤ size here = omega (arith, from, ap (λ (r : Row). r.offset) is) in
          ap (λ (o : Outcome). (progress_after poll here (progress_of before []) o).added) new_is
          ∙ lines_added_read poll here fresh begins
          ∙ lines_taken poll here fresh Whole begins (λ _. end) (λ not. absurd (not refl))
          ∙ ap (λ (r : Row). lines_read poll (size here) Whole (piece here r.offset) r) (sym is)

      -- a new row is read on
      pub takes_new : (row : Row) (ending : Ending) (given : List ℕ) (after : List Row) (added : List Mark) (gain : Gain) → row ≡ new_row poll here (length before + 1)
          → place_of (front poll.rules here) before ≡ None → length before < row_limit → row.offset ≤ size here → EndsAt here ending → row.offset ≤ here.end → given ≡ piece here row.offset
          → after ≡ slice_set (before ++ row ∷ []) (length before) (row_read poll.rules (size here) ending given row)
          → added ≡ lines_read poll (size here) ending given row → IsGainOf poll here finds_new added gain → TakesLook poll here (step before after gain added)
      takes_new row ending given after added gain is none room from ends reaches are rows lines sums =
          let fresh : Row = new_row poll here (length before + 1) in
          let at : row.offset ≡ fresh.offset = ap (λ (r : Row). r.offset) is in
          let new_is : outcome poll.rules before here ≡ finds_new = is_fresh none room in
          let fresh_begins : fresh.offset ≤ size here = omega (arith, at, from) in
          let read_then : row_after poll here fresh ≡ row_read poll.rules (size here) ending given row =
          row_after_read poll here fresh fresh_begins ∙ row_taken poll here fresh ending fresh_begins ends.whole ends.partly
          ∙ ap (λ (g : List ℕ). row_read poll.rules (size here) ending g fresh) (sym (are ∙ ap (piece here) at)) ∙ ap (row_read poll.rules (size here) ending given) (sym is) in
          record {
            end_within = ends.within;
            reads_on = subst (λ (o : Outcome). ReadsOn poll here o) (sym new_is) (λ _. omega (arith, at, reaches));
            leads_to =
                ap (λ (o : Outcome). progress_after poll here (progress_of before []) o) new_is
                ∙ same_progress
                (ap (λ (r : Row). before ++ r ∷ []) read_then
                ∙ sym (set-append_seam before row [] (row_read poll.rules (size here) ending given row))
                ∙ sym rows)
                (omega (arith, ap length rows, length-set (before ++ row ∷ []) (length before) (row_read poll.rules (size here) ending given row), length_push before row))
                (lines_added_read poll here fresh fresh_begins ∙ lines_taken poll here fresh ending fresh_begins ends.whole ends.partly
                ∙ ap (λ (g : List ℕ). lines_read poll (size here) ending g fresh) (sym (are ∙ ap (piece here) at)) ∙ ap (lines_read poll (size here) ending given) (sym is) ∙ sym lines);
            sums = subst (λ (o : Outcome). IsGainOf poll here o added gain) (sym new_is) sums;
          }
