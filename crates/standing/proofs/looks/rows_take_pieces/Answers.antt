use Rattle.std.proofs.Common.{[]}
use Rattle.std.specs.Prelude.{nat_lt}
use Rattle.std.proofs.lemmas.Bool.{cond-false, cond-true, le-ltb, lt-ltb}
use Rattle.standing.specs.Look.{front, size, all_taken, look_taken, looks_on, piece_taken, row_after, lines_added}
use Rattle.standing.proofs.ReadLemmas.{with_front}
use Rattle.standing.proofs.TakenLemmas.{taken_plain}
use Rattle.standing.proofs.looks.rows_take_pieces.Goals as goal

pub returns-clause-row : goal.returns-clause-row
unfolding row_after
returns-clause-row c = λ poll here row within.
    cond-false (nat_lt (size here) row.offset) (with_front (front poll.rules here) row) (all_taken poll here (with_front (front poll.rules here) row)).row (le-ltb (size here) row.offset within)

pub returns-clause-lines : goal.returns-clause-lines
unfolding lines_added
returns-clause-lines c = λ poll here row within. cond-false (nat_lt (size here) row.offset) [] (all_taken poll here row).lines (le-ltb (size here) row.offset within)

pub returns-clause-piece : goal.returns-clause-piece
unfolding all_taken
returns-clause-piece c = λ poll here row is. cond-false (looks_on poll.rules here row.offset) (look_taken poll here (piece_taken poll here row)) (piece_taken poll here row) is

pub returns-clause-no_flush : goal.returns-clause-no_flush
returns-clause-no_flush c = taken_plain

pub returns-clause-look : goal.returns-clause-look
unfolding all_taken
returns-clause-look c = λ poll here row is. cond-true (looks_on poll.rules here row.offset) (look_taken poll here (piece_taken poll here row)) (piece_taken poll here row) is

pub returns-clause-short_row : goal.returns-clause-short_row
unfolding row_after
returns-clause-short_row c = λ poll here row short.
    cond-true (nat_lt (size here) row.offset) (with_front (front poll.rules here) row) (all_taken poll here (with_front (front poll.rules here) row)).row (lt-ltb (size here) row.offset short)

pub returns-clause-short_lines : goal.returns-clause-short_lines
unfolding lines_added
returns-clause-short_lines c = λ poll here row short. cond-true (nat_lt (size here) row.offset) [] (all_taken poll here row).lines (lt-ltb (size here) row.offset short)
