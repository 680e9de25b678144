-- One look keeps what stands.
use Rattle.std.proofs.Common.{◌≡◌, ◌≢◌, ℕ, ◌+◌, List, ◌++◌, refl, sym, ap, subst, ◌∙◌, inl, inr, arith}
use Rattle.std.proofs.lemmas.Bool.{cases_eq}
use Rattle.std.proofs.lemmas.List.{append-nil}
use Rattle.std.proofs.lemmas.List.Elements.{All-append, All-weaker}
use Rattle.std.specs.List.{All}
use Rattle.std.specs.Prelude.{Option}
use Rattle.entry_model.specs.LogRecord.{LogRecord}
use Rattle.outside.specs.World.{History}
use Rattle.standing.specs.Eras.{Eras}
use Rattle.standing.specs.Marks.{Mark, of_id, numbered}
use Rattle.standing.specs.Prefixes.{IsPrefix}
use Rattle.standing.specs.Rows.{Row, IsRowAt, AreNumbered}
use Rattle.standing.specs.Stands.{RowStands, LinesStand, IsIdOf}
use Rattle.standing.proofs.MarkLemmas.{of_id-append, of_id-others, All-numbered}
use Rattle.standing.proofs.PlaceLemmas.{ChangesAt}

-- how the front of another row stands to what is seen now
pub record OtherFront (seen : List ℕ) (row : Row) : Type 0 where
  pub not_grown : IsPrefix row.front seen → ⊥
  pub not_shrunk : IsPrefix seen row.front → ⊥

module _ (eras : Eras) where
  -- One row is changed or added, and its lines go on; the other rows stand as before.
  pub step_stands : (old new : History) (rows rows_after : List Row) (next_id next_after place n : ℕ) (here : Row) (marks added : List Mark) (time : Option ℕ) (entries : List LogRecord)
      → ((row : Row) (lines : List Mark) → RowStands eras old row lines → RowStands eras new row lines)
      → LinesStand eras old rows next_id marks → ChangesAt place here rows rows_after → AreNumbered rows_after next_after
      → added ≡ numbered here.id n time entries → RowStands eras new here (of_id here.id (marks ++ added))
      → ((k : ℕ) (row : Row) → k ≢ place → IsRowAt rows k row → OtherFront here.front row)
      → LinesStand eras new rows_after next_after (marks ++ added)
  step_stands old new rows rows_after next_id next_after place n here marks added time entries lasts stand changes ids are here_stands fronts =
      let id : here.id ≡ place + 1 = ids.ids place here changes.there in
      let none_of : (k : ℕ) (row : Row) → k ≢ place → IsRowAt rows k row → of_id row.id (marks ++ added) ≡ of_id row.id marks =
      λ k row differs at.
      let other_id : row.id ≡ k + 1 = stand.ids.ids k row at in
      let apart : here.id ≢ row.id = λ e. differs (omega (arith, e, id, other_id)) in
      of_id-append row.id marks added
      ∙ ap (λ (ms : List Mark). of_id row.id marks ++ of_id row.id ms) are
      ∙ ap (λ (ms : List Mark). of_id row.id marks ++ ms) (of_id-others row.id here.id n time entries apart)
      ∙ append-nil (of_id row.id marks) in
      record {
        ids = ids;
        each_row = λ k row at.
            elim (changes.cases k row at) [
              | inl same ↦ subst (λ (r : Row). RowStands eras new r (of_id r.id (marks ++ added))) (sym same.1) here_stands
              | inr other ↦ subst (λ (ms : List Mark). RowStands eras new row ms) (sym (none_of k row other.0 other.1)) (lasts row (of_id row.id marks) (stand.each_row k row other.1))
            ];
        fronts_apart = λ k j row other row_at other_at differs prefix.
            elim (changes.cases k row row_at) [
              | inl same ↦ elim (changes.cases j other other_at) [
                | inl same_too ↦ differs (same.0 ∙ sym same_too.0)
                | inr is_other ↦ (fronts j other is_other.0 is_other.1).not_shrunk (subst (λ (r : Row). IsPrefix r.front other.front) same.1 prefix)
              ]
              | inr is_other ↦ elim (changes.cases j other other_at) [
                | inl same ↦ (fronts k row is_other.0 is_other.1).not_grown (subst (λ (r : Row). IsPrefix row.front r.front) same.1 prefix)
                | inr both ↦ stand.fronts_apart k j row other is_other.1 both.1 differs prefix
              ]
            ];
        no_other_line =
            let kept : (id : ℕ) → IsIdOf rows id → IsIdOf rows_after id = λ other known.
            elim (cases_eq known.0 place) [
              | inl same ↦ (place, here, changes.there, omega (arith, id, same, stand.ids.ids known.0 known.1 known.2, known.3))
              | inr differs ↦ (known.0, known.1, changes.others known.0 known.1 differs known.2, known.3)
            ] in
            let new_lines : All (λ (mark : Mark). IsIdOf rows_after mark.id) added =
            subst (λ (ms : List Mark). All (λ (mark : Mark). IsIdOf rows_after mark.id) ms) (sym are) (All-numbered (IsIdOf rows_after) here.id n time entries (place, here, changes.there, refl)) in
            All-append (λ (mark : Mark). IsIdOf rows_after mark.id) marks added
            (All-weaker (λ (mark : Mark). IsIdOf rows mark.id) (λ (mark : Mark). IsIdOf rows_after mark.id) (λ mark known. kept mark.id known) marks stand.no_other_line)
            new_lines;
      }
