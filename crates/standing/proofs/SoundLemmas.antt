-- A poll keeps a checkpoint sound, whatever the rows stand for.
use Rattle.std.proofs.Common.{◌≡◌, ◌+◌, List, [], ◌∷◌, true, false, cond, IsTrue, refl, sym, ap, subst, ◌∙◌, inl, inr}
use Rattle.std.specs.List.{All}
use Rattle.std.specs.Prelude.{nat_lt}
use Rattle.std.proofs.lemmas.List.{length-set, length_push}
use Rattle.std.proofs.lemmas.List.Elements.{All-set, All-push}
use Rattle.std.proofs.lemmas.Option.{get_or_from_slice_get, slice_get_within}
use Rattle.standing.specs.AreRules.{AreRules}
use Rattle.standing.specs.Look.{Look, Outcome, skips, finds_nothing, finds_compressed, finds_no_room, finds_new, finds_row, Progress, front, size, piece, fed, all_taken, new_row, row_after, outcome, progress_after}
use Rattle.standing.specs.Looks.{progress_by}
use Rattle.standing.specs.Poll.{Poll}
use Rattle.standing.specs.Rows.{Row, AreNumbered}
use Rattle.standing.proofs.OutcomeLemmas.{finds_row-tells}
use Rattle.standing.proofs.PlaceLemmas.{changes_by_set, changes_by_push}
use Rattle.standing.proofs.ReadLemmas.{with_front}
use Rattle.standing.proofs.TakenLemmas.{taken_is}

pub row_after-id : (poll : Poll) (here : Look) (row : Row) → (row_after poll here row).id ≡ row.id
unfolding row_after
row_after-id poll here row =
    let grown : Row = with_front (front poll.rules here) row in
    elim (nat_lt (size here) row.offset) as (λ t. (cond t grown (all_taken poll here grown).row).id ≡ row.id) [
      | true ↦ refl
      | false ↦ taken_is (λ taken. taken.row.id ≡ row.id) poll here grown (record { plain = refl; looked_at = λ idle. refl; at_flush = λ idle. refl })
    ]

abbrev HasState : Poll → Row → Type 0
HasState poll row = IsTrue (poll.rules.is_state row.state)

row_after-state : (poll : Poll) (here : Look) (row : Row) → AreRules poll.rules → HasState poll row → HasState poll (row_after poll here row)
unfolding row_after
row_after-state poll here row laws good =
    let grown : Row = with_front (front poll.rules here) row in
    let goes_on : HasState poll (fed poll.rules (piece here row.offset) grown) = laws.operators.state_goes_on _ _ _ _ good in
    elim (nat_lt (size here) row.offset) as (λ t. HasState poll (cond t grown (all_taken poll here grown).row)) [
      | true ↦ good
      | false ↦ taken_is (λ taken. HasState poll taken.row) poll here grown (record { plain = goes_on; looked_at = λ idle. goes_on; at_flush = λ idle. laws.operators.fresh_is_state })
    ]

pub record IsInOrder (poll : Poll) (now : Progress) : Type 0 where
  pub ids : AreNumbered now.rows now.next_id
  pub states : All (λ (row : Row). IsTrue (poll.rules.is_state row.state)) now.rows

module _ (poll : Poll) (laws : AreRules poll.rules) where
  look_keeps_order : (here : Look) (now : Progress) (found : Outcome) → outcome poll.rules now.rows here ≡ found → IsInOrder poll now → IsInOrder poll (progress_after poll here now found)
  look_keeps_order here now skips is order = order
  look_keeps_order here now finds_nothing is order = order
  look_keeps_order here now finds_compressed is order = order
  look_keeps_order here now finds_no_room is order = order
  look_keeps_order here now finds_new is order =
      let row : Row = new_row poll here now.next_id in
      let next : Row = row_after poll here row in
      let changes = changes_by_push now.rows next in
      record {
        ids = record {
          ids = λ k other at. elim (changes.cases k other at) [
            | inl same ↦ ap (λ (r : Row). r.id) same.1 ∙ row_after-id poll here row ∙ order.ids.next ∙ ap (λ n. n + 1) (sym same.0)
            | inr is_other ↦ order.ids.ids k other is_other.1
          ];
          next = ap (λ n. n + 1) (order.ids.next ∙ sym (length_push now.rows next));
        };
        states = All-push (HasState poll) now.rows next order.states (row_after-state poll here row laws laws.operators.fresh_is_state);
      }
  look_keeps_order here now (finds_row place row) is order =
      let found = finds_row-tells poll.rules now.rows here place row is in
      let next : Row = row_after poll here row in
      let changes = changes_by_set now.rows place next row found.at in
      let good : HasState poll row = subst (HasState poll) (get_or_from_slice_get now.rows place row row found.at) (order.states place row (slice_get_within now.rows place row found.at)) in
      record {
        ids = record {
          ids = λ k other at. elim (changes.cases k other at) [
            | inl same ↦ ap (λ (r : Row). r.id) same.1 ∙ row_after-id poll here row ∙ order.ids.ids place row found.at ∙ ap (λ n. n + 1) (sym same.0)
            | inr is_other ↦ order.ids.ids k other is_other.1
          ];
          next = order.ids.next ∙ ap (λ n. n + 1) (sym (length-set now.rows place next));
        };
        states = All-set (HasState poll) now.rows place next (row_after-state poll here row laws good) order.states;
      }

  pub looks_keep_order : (looks : List Look) (start : Progress) → IsInOrder poll start → IsInOrder poll (progress_by poll looks start)
  looks_keep_order [] start order = order
  looks_keep_order (here ∷ earlier) start order =
      let now : Progress = progress_by poll earlier start in
      look_keeps_order here now (outcome poll.rules now.rows here) refl (looks_keep_order earlier start order)
