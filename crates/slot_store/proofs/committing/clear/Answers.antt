use Rattle.std.proofs.Common.{◌+◌, inr, arith}
use Rattle.outside.proofs.Passing.{passes_weaker}
use Rattle.outside.proofs.Tearing.{at_file_weaker, at_file_then}
use Rattle.slot_store.proofs.Counts.{done_err, done_more_then, unwritten_err}
use Rattle.slot_store.proofs.Leaving.{leaves_then, passes_on}
use Rattle.slot_store.proofs.Tears.{clears_cut, torn_gate_alone, gate_alone}
use Rattle.slot_store.proofs.committing.clear.Goals as goal

pub returns-in_err-cut_synced-clause-crash : goal.returns-in_err-cut_synced-clause-crash
returns-in_err-cut_synced-clause-crash g c =
    passes_weaker c.cut_synced.ensures.crash (λ x y at. at_file_weaker at (clears_cut (x c.args.file) (y c.args.file)))

pub returns-in_err-cut_synced-clause-counted : goal.returns-in_err-cut_synced-clause-counted
returns-in_err-cut_synced-clause-counted g c =
    unwritten_err c.from_residual.result c.args.file 1 _ _ c.from_residual.ensures.0 c.cut_synced.ensures.counted

pub returns-in_err-write_synced-clause-crash : goal.returns-in_err-write_synced-clause-crash
returns-in_err-write_synced-clause-crash g c =
    passes_on c.cut_synced.ensures.crash c.in_ok-cut_synced.ensures.cut c.write_synced.ensures.crash
    (λ x y at. at_file_weaker at (clears_cut (x c.args.file) (y c.args.file)))
    (λ x y z left one two. at_file_then one two (λ cut torn. inr (torn_gate_alone (y c.args.file) (z c.args.file) cut torn)))

pub returns-in_err-write_synced-clause-done : goal.returns-in_err-write_synced-clause-done
returns-in_err-write_synced-clause-done g c =
    let some = c.in_err-write_synced.ensures.done in
    done_err c.from_residual-in_err-write_synced.result 4 (2 + some.0) _ _ c.from_residual-in_err-write_synced.ensures.0 (omega (arith, some.1)) (done_more_then 2 some.0 _ _ _ c.in_ok-cut_synced.ensures.done some.2)

pub returns-clause-cleared : goal.returns-clause-cleared
returns-clause-cleared g c =
    leaves_then c.in_ok-cut_synced.ensures.cut c.in_ok-write_synced.ensures.written
    (λ x y z one two. at_file_then one two (λ cut holds. gate_alone (y c.args.file) (z c.args.file) cut holds))

pub returns-clause-crash : goal.returns-clause-crash
returns-clause-crash g c =
    passes_on c.cut_synced.ensures.crash c.in_ok-cut_synced.ensures.cut c.write_synced.ensures.crash
    (λ x y at. at_file_weaker at (clears_cut (x c.args.file) (y c.args.file)))
    (λ x y z left one two. at_file_then one two (λ cut torn. inr (torn_gate_alone (y c.args.file) (z c.args.file) cut torn)))
