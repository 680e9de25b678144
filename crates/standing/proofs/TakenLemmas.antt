-- What a look makes of a row that isn't past its file's end, by cases.
use Rattle.std.proofs.Common.{◌≡◌, ℕ, ◌+◌, ◌++◌, Bool, true, false, cond, ap}
use Rattle.std.proofs.lemmas.Bool.{cond-false}
use Rattle.std.specs.Prelude.{nat_lt, nat_le, ◌&&◌, ◌==◌}
use Rattle.idle_flush.specs.Looked.{looked}
use Rattle.idle_flush.specs.declared.idle.Idle.{Idle}
use Rattle.standing.specs.Limits.{most_taken}
use Rattle.standing.specs.Look.{Look, Taken, size, looks_on, is_pending, noted, flushed, rest_output, noted_or_flushed, look_taken, piece_taken, all_taken}
use Rattle.standing.specs.Marks.{numbered}
use Rattle.standing.specs.Poll.{Poll}
use Rattle.standing.specs.Rows.{Row}
use Rattle.standing.specs.Rules.{Rules}

none_looks_on : (rules : Rules) (here : Look) (offset : ℕ) → rules.flush_after ≡ 0 → looks_on rules here offset ≡ false
none_looks_on rules here offset none = ap (λ n. nat_lt 0 n && (here.end == size here && nat_le (size here) (offset + most_taken))) none

-- where nothing is flushed, only the tokens of a piece are taken
pub taken_plain : (poll : Poll) (here : Look) (row : Row) → poll.rules.flush_after ≡ 0 → all_taken poll here row ≡ piece_taken poll here row
unfolding all_taken
taken_plain poll here row none =
    cond-false (looks_on poll.rules here row.offset) (look_taken poll here (piece_taken poll here row)) (piece_taken poll here row) (none_looks_on poll.rules here row.offset none)

-- what holds of each of the three ways holds of what was taken
pub record EachWay (P : Taken → Type 0) (poll : Poll) (here : Look) (before : Taken) : Type 0 where
  pub plain : P before
  pub looked_at : (idle : Idle) → P (record { row = noted idle before.row; lines = before.lines })
  pub at_flush : (idle : Idle) → P (record { row = flushed poll.rules here (noted idle before.row); lines = before.lines ++ numbered before.row.id (before.row.lines + 1) poll.stamp (rest_output poll.rules here (noted idle before.row)) })

noted_way : (P : Taken → Type 0) (poll : Poll) (here : Look) (before : Taken) (look : Idle × Bool) → EachWay P poll here before → P (noted_or_flushed poll here look before)
noted_way P poll here before look each =
    let row : Row = noted look.0 before.row in
    let one : Taken = record { row = flushed poll.rules here row; lines = before.lines ++ numbered row.id (row.lines + 1) poll.stamp (rest_output poll.rules here row) } in
    let other : Taken = record { row = row; lines = before.lines } in
    elim look.1 as (λ t. P (cond t one other)) [ true ↦ each.at_flush look.0 | false ↦ each.looked_at look.0 ]

pub taken_is : (P : Taken → Type 0) (poll : Poll) (here : Look) (row : Row) → EachWay P poll here (piece_taken poll here row) → P (all_taken poll here row)
unfolding all_taken
taken_is P poll here row each =
    let before : Taken = piece_taken poll here row in
    let look : Idle × Bool = looked (record { seen = before.row.seen; quiet = before.row.quiet }) (size here) (is_pending poll.rules here before.row) poll.rules.flush_after in
    elim (looks_on poll.rules here row.offset) as (λ t. P (cond t (look_taken poll here before) before)) [
      | true ↦ noted_way P poll here before look each
      | false ↦ each.plain
    ]
