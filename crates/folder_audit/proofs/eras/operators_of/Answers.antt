use Rattle.std.proofs.Common.{[], subst}
use Rattle.checkpoint_store.specs.Limits.{newest}
use Rattle.checkpoint_store.specs.Rules.{beside_of}
use Rattle.pipeline.specs.AsRules.{rules_of}
use Rattle.pipeline.specs.declared.Pipeline.{Pipeline}
use Rattle.standing.specs.Rows.{KeepStates}
use Rattle.folder_audit.proofs.KeptLemmas.{one_last}
use Rattle.checkpoint_journal.proofs.RowLemmas.{rows_in_order}
use Rattle.folder_audit.proofs.eras.operators_of.Goals as goal

pub first_foreign-requires : goal.first_foreign-requires
first_foreign-requires c =
    let saved = c.args.checkpoint.now in
    rw c.as_slice.ensures (rows_in_order (beside_of newest saved.eras saved.output_length) saved.rows c.requires.rows)

pub returns-in-Some-clause-unfit : goal.returns-in-Some-clause-unfit
returns-in-Some-clause-unfit c = record {
  pipes = c.in_ok-pipes.pipes.items;
  last = c.last_of.result.now;
  made = c.in_ok-pipes.ensures.made;
  is_last = rw c.deref.ensures.value at c.last_of.ensures;
  foreign = (rw (c.in-Some.is, c.as_slice.ensures) at c.in_ok-foreign.ensures.foreign) [];
}

pub returns-in-None-clause-operators : goal.returns-in-None-clause-operators
returns-in-None-clause-operators c = record {
  made = c.in_ok-pipes.ensures.made;
  states = λ last is_last.
      let same = one_last c.in_ok-pipes.pipes.items c.last_of.result.now last (rw c.deref.ensures.value at c.last_of.ensures) is_last in
      subst (λ (p : Pipeline). KeepStates (rules_of [] p) c.args.checkpoint.now.rows) same ((rw (c.in-None.is, c.as_slice.ensures) at c.in_ok-foreign.ensures.fine) []);
}
