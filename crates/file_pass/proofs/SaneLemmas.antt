-- The numbers of a pass, whatever is read.
use Rattle.std.proofs.Common.{◌≡◌, ℕ, ◌+◌, ◌<◌, ◌≤◌, ◌^◌, List, [], ◌∷◌, length, refl, sym, ap, subst, ◌∙◌, inl, inr, arith, length-append}
use Rattle.std.proofs.lemmas.List.{length-set, length_push}
use Rattle.checkpoint_store.specs.Rules.{NoneFalls, Rise, first_point, last_point}
use Rattle.file_tracker.specs.Limits.{row_limit}
use Rattle.file_tracker.specs.declared.ends.End.{End}
use Rattle.file_pass.specs.declared.counts.Counts.{Counts}
use Rattle.file_pass.specs.declared.taking.Taking.{Taking}
use Rattle.std.specs.Prelude.{Option, None, Some, IfSome, IsTrue, slice_get, slice_set, ◌&&◌}
use Rattle.file_tracker.specs.Places.{with_front, with_look, with_progress}
use Rattle.file_tracker.specs.declared.row.Row.{Row}
use Rattle.standing.specs.Poll.{Poll}
use Rattle.standing.specs.Marks.{Mark}
use Rattle.state_codec.specs.Rules.{IsShortText}
use Rattle.file_pass.specs.Fed.{poll_of, rules_in}
use Rattle.file_pass.specs.Full.{line_of, lines_text}
use Rattle.file_pass.specs.Sane.{HasParts, IsSaneRow, FreshFits, AreSaneRows, IsSaneTaking}
use Rattle.file_pass.specs.Inner.Settled.{IsKnown, IsAdmitted, Settles, admitted}
use Rattle.file_pass.specs.declared.ending.SeenFile.{SeenFile}
use Rattle.file_pass.specs.declared.setup.Setup.{Setup}
use Rattle.file_pass.proofs.Bridging.{start_within}
use Rattle.file_pass.proofs.Listing.{set_cases, push_cases}

none_falls_on : (from mid to : End) → NoneFalls from mid → NoneFalls mid to → NoneFalls from to
none_falls_on from mid to first then = record { offset = omega (arith, first.offset, then.offset); records = omega (arith, first.records, then.records); lines = omega (arith, first.lines, then.lines) }

-- a file that was read further has its parts as before
rises_on : (from : End) (ends : List End) (to further : End) → Rise from ends to → NoneFalls to further → Rise from ends further
rises_on from [] to further rise more = none_falls_on from to further rise more
rises_on from (end ∷ ends) to further rise more = (rise.0, rises_on end ends to further rise.1 more)

parts_stay : (era : ℕ) (row other : Row) → other.born ≡ row.born → other.ends ≡ row.ends → first_point other ≡ first_point row → last_point other ≡ last_point row → other.seen ≡ row.seen → other.quiet ≡ row.quiet
    → HasParts era row → HasParts era other
parts_stay era row other born ends first last seen quiet has = record {
  born = omega (arith, born, has.born);
  parts = omega (arith, born, ap (λ (es : List End). length es) ends, has.parts);
  rises =
      let P : End → Type 0 = λ e. Rise e other.ends (last_point other) in
      let Q : List End → Type 0 = λ es. Rise (first_point row) es (last_point other) in
      let R : End → Type 0 = λ e. Rise (first_point row) row.ends e in
      subst P (sym first) (subst Q (sym ends) (subst R (sym last) has.rises));
  seen = omega (arith, seen, has.seen);
  quiet = omega (arith, quiet, has.quiet);
}

-- rows that are found or made
module _ (setup : Setup) (end : ℕ) (seen : SeenFile) (before after : List Row) (place : ℕ) (sane : AreSaneRows (poll_of setup) end before)
    (size_within : seen.file.size ≤ 2 ^ 62) (short : IsShortText seen.path.now) (some : (1 ≤ length seen.front.now) × (length seen.front.now ≤ 4096)) where
  pub sane_known : IsKnown seen.front.now before place after → AreSaneRows (poll_of setup) end after
  sane_known known k row at =
      elim (set_cases before place k (with_front seen.front.now known.row) row (sym (ap (λ (l : List Row). slice_get l k) known.grown) ∙ at)) [
        | inl here ↦ (
            let was = sane place known.row known.at in
            let grown : IsSaneRow (poll_of setup) end place (with_front seen.front.now known.row) = record {
              id = was.id;
              path = was.path;
              front = some;
              start = was.start;
              offset = was.offset;
              records = was.records;
              lines = was.lines;
              state = was.state;
              short = was.short;
              parts = parts_stay setup.era known.row (with_front seen.front.now known.row) refl refl refl refl refl refl was.parts;
            } in
            rw (here.0, here.1) grown)
        | inr other ↦ sane k row other.1
      ]

  pub sane_admitted : 1 ≤ setup.era → FreshFits setup → IsAdmitted setup seen before place after → AreSaneRows (poll_of setup) end after
  sane_admitted era fits fresh k row at =
      let new : Row = admitted setup seen.file.size seen.path.now seen.front.now (length before + 1) in
      elim (push_cases before k new row (sym (ap (λ (l : List Row). slice_get l k) fresh.added) ∙ at)) [
        | inl here ↦ (
            let le : new.start ≤ seen.file.size = start_within (setup.first && (rules_in setup).from_end) seen.file.size in
            let made : IsSaneRow (poll_of setup) end (length before) new = record {
              id = refl;
              path = short;
              front = some;
              start = omega arith;
              offset = omega (arith, le, size_within);
              records = omega arith;
              lines = omega arith;
              state = fits.good;
              short = fits.short;
              parts = record { born = era; parts = omega arith; rises = record { offset = omega arith; records = omega arith; lines = omega arith }; seen = omega arith; quiet = omega arith };
            } in
            rw (here.0, here.1) made)
        | inr other ↦ sane k row other
      ]

module _ (setup : Setup) (seen : SeenFile) (before after : Taking) (sane : IsSaneTaking setup before) (size_within : seen.file.size ≤ 2 ^ 62) (short : IsShortText seen.path.now)
    (some : (1 ≤ length seen.front.now) × (length seen.front.now ≤ 4096)) (flags : length after.changed.items ≡ length after.tracker) (end : after.end ≡ before.end) (counts : after.counts ≡ before.counts) where
  settled_by : AreSaneRows (poll_of setup) before.end after.tracker → length after.tracker ≤ row_limit → IsSaneTaking setup after
  settled_by rows few = record {
    rows = subst (λ e. AreSaneRows (poll_of setup) e after.tracker) (sym end) rows;
    few = few;
    era = sane.era;
    flags = flags;
    end_within = omega (arith, end, sane.end_within);
    lines = omega (arith, end, sane.lines, ap (λ (c : Counts). c.lines) counts);
  }

  pub sane_found : (place : ℕ) → IsKnown seen.front.now before.tracker place after.tracker → IsSaneTaking setup after
  sane_found place known =
      settled_by (sane_known setup before.end seen before.tracker after.tracker place sane.rows size_within short some known)
      (omega (arith, ap (λ (rows : List Row). length rows) known.grown, length-set before.tracker place (with_front seen.front.now known.row), sane.few))

  pub sane_settled : (place : Option ℕ) → IfSome place (λ _. FreshFits setup) → Settles setup seen before.tracker place after.tracker → IsSaneTaking setup after
  sane_settled None fits left_out = settled_by (subst (λ (rows : List Row). AreSaneRows (poll_of setup) before.end rows) (sym left_out.same) sane.rows) (omega (arith, ap (λ (rows : List Row). length rows) left_out.same, sane.few))
  sane_settled (Some place) fits (inl known) = sane_found place known
  sane_settled (Some place) fits (inr fresh) =
      settled_by (sane_admitted setup before.end seen before.tracker after.tracker place sane.rows size_within short some sane.era fits fresh)
      (omega (arith, ap (λ (rows : List Row). length rows) fresh.added, length_push before.tracker (admitted setup seen.file.size seen.path.now seen.front.now (length before.tracker + 1)), fresh.room))

-- a row that was read on
pub sane_progress : (poll : Poll) (end end_after : ℕ) (rows after : List Row) (place : ℕ) (row : Row) (far cut made : ℕ) (state : List ℕ) (seen quiet : ℕ) → AreSaneRows poll end rows → end ≤ end_after → slice_get rows place ≡ Some row
    → after ≡ slice_set rows place (with_look seen quiet (with_progress far cut made state row)) → seen < 2 ^ 64 → quiet < 2 ^ 32 → row.offset ≤ far → far ≤ 2 ^ 62 → row.start + cut ≤ far → row.records ≤ cut → row.lines ≤ made → made ≤ end_after → IsTrue (poll.rules.is_state state) → length state < 2 ^ 32 → AreSaneRows poll end_after after
sane_progress poll end end_after rows after place row far cut made state seen quiet sane later at is seen_within quiet_within gone far_within few cut_rises made_rises lines good short k other there =
    elim (set_cases rows place k (with_look seen quiet (with_progress far cut made state row)) other (sym (ap (λ (l : List Row). slice_get l k) is) ∙ there)) [
      | inl here ↦ (
          let was = sane place row at in
          let on : IsSaneRow poll end_after place (with_look seen quiet (with_progress far cut made state row)) = record {
            id = was.id;
            path = was.path;
            front = was.front;
            start = omega (arith, was.start, gone);
            offset = far_within;
            records = few;
            lines = lines;
            state = good;
            short = short;
            parts = record {
              born = was.parts.born;
              parts = was.parts.parts;
              rises = rises_on (first_point row) row.ends (last_point row) (record { offset = far; records = cut; lines = made }) was.parts.rises (record { offset = gone; records = cut_rises; lines = made_rises });
              seen = seen_within;
              quiet = quiet_within;
            };
          } in
          rw (here.0, here.1) on)
      | inr another ↦ (
          let was = sane k other another.1 in
          record { id = was.id; path = was.path; front = was.front; start = was.start; offset = was.offset; records = was.records; lines = omega (arith, was.lines, later); state = was.state; short = was.short; parts = was.parts })
    ]

-- each line has a byte or more
pub text_long : ((mark : Mark) → 0 < length (line_of mark)) → (marks : List Mark) → length marks ≤ length (lines_text marks)
text_long filled [] = omega arith
text_long filled (first ∷ rest) = omega (arith, filled first, text_long filled rest, length-append (line_of first) (lines_text rest))
