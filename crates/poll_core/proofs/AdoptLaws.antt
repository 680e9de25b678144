-- A checkpoint with one era more is one.
use Rattle.std.proofs.Common.{◌≡◌, ℕ, ◌+◌, ◌<◌, ◌≤◌, ◌^◌, List, [], ◌∷◌, ◌++◌, length, map, refl, sym, ap, ◌∙◌, subst, arith}
use Rattle.std.proofs.lemmas.List.{length-append, length-map}
use Rattle.std.proofs.lemmas.List.Concat.{flat_map-append}
use Rattle.std.proofs.lemmas.List.Elements.{All-append, All-cons, All-nil}
use Rattle.std.specs.List.{All, flat_map}
use Rattle.std.specs.Prelude.{Option}
use Rattle.checkpoint_store.specs.Limits.{newest, era_limit, output_limit}
use Rattle.checkpoint_store.specs.Rules.{IsCheckpoint, KeepRules, KeepsPast, KeepsRules, NoneFalls, Rise, beside_of, first_point, last_point, past_of}
use Rattle.checkpoint_store.specs.declared.Checkpoint.{Checkpoint}
use Rattle.checkpoint_store.specs.declared.beside.Beside.{Beside}
use Rattle.file_pass.specs.Full.{line_of, lines_text}
use Rattle.file_tracker.specs.declared.ends.End.{End}
use Rattle.file_tracker.specs.declared.row.Row.{Row}
use Rattle.file_pass.proofs.FeedingOn.{length-numbered}
use Rattle.file_pass.proofs.SaneLemmas.{text_long}
use Rattle.standing.specs.Adopted.{end_of, lines_closed, row_adopted}
use Rattle.standing.specs.Marks.{Mark}
use Rattle.standing.specs.Rules.{Rules}

rise_more : (from : End) (ends : List End) (last to : End) → Rise from ends last → NoneFalls last to → Rise from (ends ++ to ∷ []) to
rise_more from [] last to rises more = (
  record { offset = omega (arith, rises.offset, more.offset); records = omega (arith, rises.records, more.records); lines = omega (arith, rises.lines, more.lines) },
  record { offset = omega arith; records = omega arith; lines = omega arith },
)
rise_more from (end ∷ ends) last to rises more = (rises.0, rise_more end ends last to rises.1 more)

-- what rows stand beside before and after, of the newest version
pub record IsOneMore (beside after : Beside) : Type 0 where
  pub version : beside.version ≡ newest
  pub version_after : after.version ≡ newest
  pub eras : after.eras ≡ beside.eras + 1
  pub few : after.eras ≤ era_limit

module _ (rules next : Rules) (short : length next.fresh < 2 ^ 32) (beside after : Beside) (one_more : IsOneMore beside after) where
  row_past : (row : Row) → KeepsPast beside (first_point row) (last_point row) (past_of row) → KeepsPast after (first_point (row_adopted rules next row)) (last_point (row_adopted rules next row)) (past_of (row_adopted rules next row))
  row_past row keeps =
      let one : length (row.ends ++ end_of rules row ∷ []) ≡ length row.ends + 1 = length-append row.ends (end_of rules row ∷ []) in
      let parts : row.born + length row.ends ≡ beside.eras = keeps.eras (omega (arith, one_more.version)) in
      record {
        of_version = λ old. absurd (omega (arith, old, one_more.version_after));
        eras = λ _. omega (arith, one, parts, one_more.eras);
        born = keeps.born;
        count = omega (arith, one, parts, one_more.eras, one_more.few, keeps.born.0);
        ends = rise_more (first_point row) row.ends (last_point row) (end_of rules row) keeps.ends (record { offset = omega arith; records = omega arith; lines = omega arith });
        seen = keeps.seen;
        quiet = keeps.quiet;
      }

  row_lawful : (row : Row) → row.lines + length (rules.closed row.state) ≤ after.output_length → KeepsRules beside row → KeepsRules after (row_adopted rules next row)
  row_lawful row within keeps = record {
    id = keeps.id;
    path = keeps.path;
    front = keeps.front;
    start = keeps.start;
    offset = keeps.offset;
    records = keeps.records;
    lines = within;
    state = short;
    past = row_past row keeps.past;
  }

  rows_lawful : ((mark : Mark) → 0 < length (line_of mark)) → (time : Option ℕ) (first room : ℕ) (rows : List Row) → KeepRules beside first rows
      → length (lines_text (flat_map (lines_closed rules time) rows)) ≤ room → beside.output_length + room ≤ after.output_length → KeepRules after first (map (row_adopted rules next) rows)
  rows_lawful some time first room [] keep within enough = tt
  rows_lawful some time first room (row ∷ rows) keep within enough =
      let own : List Mark = lines_closed rules time row in
      let others : List Mark = flat_map (lines_closed rules time) rows in
      let parted : length (lines_text (own ++ others)) ≡ length (lines_text own) + length (lines_text others) =
      ap (λ (t : List ℕ). length t) (flat_map-append line_of own others) ∙ length-append (lines_text own) (lines_text others) in
      let few : length (rules.closed row.state) ≤ length (lines_text own) = omega (arith, text_long some own, length-numbered row.id (row.lines + 1) time (rules.closed row.state)) in
      let lines : row.lines ≤ beside.output_length = keep.1.0.lines in (
        keep.0,
        (row_lawful row (omega (arith, few, parted, within, enough, lines)) keep.1.0, rows_lawful some time (first + 1) room rows keep.1.1 (omega (arith, parted, within)) enough),
      )

-- the checkpoint with one era more and its lines
pub record IsLonger (rules next : Rules) (time : Option ℕ) (before after : Checkpoint) : Type 0 where
  pub texts : after.eras ≡ before.eras ++ next.settings ∷ []
  pub rows : after.rows ≡ map (row_adopted rules next) before.rows
  pub next_id : after.next_id ≡ before.next_id
  pub observed : after.observed ≡ before.observed
  pub output_length : after.output_length ≡ before.output_length + length (lines_text (flat_map (lines_closed rules time) before.rows))

-- what the next settings ask of it
pub record HasPlace (next : Rules) (before after : Checkpoint) : Type 0 where
  pub short_text : length next.settings < 2 ^ 32
  pub short_state : length next.fresh < 2 ^ 32
  pub few : length before.eras < era_limit
  pub within : after.output_length ≤ output_limit

pub longer_lawful : ((mark : Mark) → 0 < length (line_of mark)) → (rules next : Rules) (time : Option ℕ) (before after : Checkpoint) → IsLonger rules next time before after → HasPlace next before after → IsCheckpoint newest before → IsCheckpoint newest after
longer_lawful some rules next time before after longer place lawful =
    let texts : List (List ℕ) = before.eras ++ next.settings ∷ [] in
    let one : length after.eras ≡ length before.eras + 1 = ap (λ (l : List (List ℕ)). length l) longer.texts ∙ length-append before.eras (next.settings ∷ []) in
    let P : List ℕ → Type 0 = λ text. length text < 2 ^ 32 in
    let room : ℕ = length (lines_text (flat_map (lines_closed rules time) before.rows)) in
    let beside : Beside = beside_of newest before.eras before.output_length in
    let wider : Beside = beside_of newest after.eras after.output_length in
    let rows : KeepRules wider 1 (map (row_adopted rules next) before.rows) =
    rows_lawful rules next place.short_state beside wider (record { version = refl; version_after = refl; eras = one; few = omega (arith, one, place.few) })
    some time 1 room before.rows lawful.rows (omega arith) (omega (arith, longer.output_length)) in
    record {
      eras = record {
        of_version = λ old. absurd (omega (arith, old));
        some = omega (arith, one);
        few = omega (arith, one, place.few);
        short = subst (λ (l : List (List ℕ)). All P l) (sym longer.texts) (All-append P before.eras (next.settings ∷ []) lawful.eras.short (All-cons P next.settings [] place.short_text (All-nil P)));
      };
      output_length = place.within;
      observed = record {
        of_version = λ old. absurd (omega (arith, old));
        told = λ since. (omega arith, omega (arith, longer.observed, (lawful.observed.told since).1));
      };
      next_id = (omega (arith, longer.next_id, lawful.next_id.0), omega (arith, longer.next_id, lawful.next_id.1));
      count = ap (λ (l : List Row). length l + 1) longer.rows ∙ ap (λ n. n + 1) (length-map before.rows (row_adopted rules next)) ∙ lawful.count ∙ sym longer.next_id;
      rows = subst (λ (l : List Row). KeepRules wider 1 l) (sym longer.rows) rows;
    }
