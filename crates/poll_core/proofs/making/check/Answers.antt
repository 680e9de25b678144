use Rattle.std.proofs.Common.{sym, subst}
use Rattle.std.proofs.lemmas.Option.{MatchOption-at_none}
use Rattle.checkpoint_store.specs.Limits.{newest}
use Rattle.checkpoint_store.specs.Rules.{beside_of}
use Rattle.pipeline.specs.AsRules.{rules_of}
use Rattle.checkpoint_journal.proofs.RowLemmas.{rows_in_order}
use Rattle.poll_core.proofs.making.check.Goals as goal
use Rattle.standing.specs.Rows.{KeepStates, AreInOrder}

pub first_foreign-requires : goal.first_foreign-requires
first_foreign-requires c =
    subst (λ rows. AreInOrder rows) (sym c.as_slice.ensures)
    (rows_in_order (beside_of newest c.args.checkpoint.now.eras c.args.checkpoint.now.output_length) c.args.checkpoint.now.rows c.requires.rows)

pub returns-in-None-clause-states : goal.returns-in-None-clause-states
returns-in-None-clause-states c =
    subst (λ rows. KeepStates (rules_of c.args.settings.now c.args.pipeline.now) rows) c.as_slice.ensures
    (MatchOption-at_none _ _ c.in-None.is c.in_ok-foreign.ensures.fine c.args.settings.now)
