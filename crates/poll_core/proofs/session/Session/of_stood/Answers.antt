use Rattle.std.proofs.Common.{List, sym, subst}
use Rattle.std.proofs.lemmas.Option.{MatchOption-at_none}
use Rattle.std.proofs.lemmas.Result.{err_from_is_err_and}
use Rattle.checkpoint_store.specs.Limits.{newest}
use Rattle.checkpoint_store.specs.Rules.{beside_of}
use Rattle.file_tracker.specs.declared.row.Row.{Row}
use Rattle.pipeline.specs.AsRules.{rules_of}
use Rattle.poll_core.proofs.AdoptRefusals.{foreign_unadopted, kept_unadopted, short_unadopted}
use Rattle.checkpoint_journal.proofs.RowLemmas.{rows_in_order}
use Rattle.poll_core.proofs.session.Session.of_stood.Goals as goal
use Rattle.poll_core.specs.AdoptFaults.{IsKeptRefusal}
use Rattle.pipeline.specs.MadeOf.{IsMadeOf}
use Rattle.pipeline.specs.Foreign.{IsLeastForeign}
use Rattle.poll_core.specs.SessionParts.{last_text}
use Rattle.standing.specs.Rows.{AreInOrder, KeepStates}

pub returns-in_err-pipeline-clause-of_kept : goal.returns-in_err-pipeline-clause-of_kept
returns-in_err-pipeline-clause-of_kept c =
    let p = err_from_is_err_and c.from_residual.result c.from_residual.ensures.1 in
    let checkpoint = c.args.stood.checkpoint in
    rw (p.1, p.2) (λ of_kept image has size text most.
    kept_unadopted text most image c.args.stood.journal checkpoint has c.in_err-pipeline.field-0.0
    (subst (λ said. IsKeptRefusal said c.in_err-pipeline.field-0.0) c.last_text.ensures c.in_err-pipeline.ensures.refusal) of_kept)

pub first_foreign-requires : goal.first_foreign-requires
first_foreign-requires c =
    let checkpoint = c.args.stood.checkpoint in
    subst (λ (rows : List Row). AreInOrder rows) (sym c.as_slice.ensures) (rows_in_order (beside_of newest checkpoint.eras checkpoint.output_length) checkpoint.rows c.requires.lawful.rows)

pub returns-in-Some-clause-of_kept : goal.returns-in-Some-clause-of_kept
returns-in-Some-clause-of_kept c = λ of_kept image has size text most.
    let checkpoint = c.args.stood.checkpoint in
    let pipeline = c.in_ok-pipeline.pipeline in
    let made : IsMadeOf (last_text checkpoint.eras) pipeline = subst (λ said. IsMadeOf said pipeline) c.last_text.ensures c.in_ok-pipeline.ensures.made in
    let foreign = rw c.in-Some.is at c.in_ok-foreign.ensures.foreign in
    foreign_unadopted text most image c.args.stood.journal checkpoint has pipeline made c.in-Some.at
    (subst (λ (rows : List Row). IsLeastForeign (rules_of (last_text checkpoint.eras) pipeline) rows c.in-Some.at) c.as_slice.ensures (foreign (last_text checkpoint.eras)))

pub returns-then-size-checkpoint-clause-of_kept : goal.returns-then-size-checkpoint-clause-of_kept
returns-then-size-checkpoint-clause-of_kept c = λ of_kept image has size text most.
    let checkpoint = c.args.stood.checkpoint in
    let pipeline = c.in_ok-pipeline.pipeline in
    let made : IsMadeOf (last_text checkpoint.eras) pipeline = subst (λ said. IsMadeOf said pipeline) c.last_text.ensures c.in_ok-pipeline.ensures.made in
    let fine = MatchOption-at_none _ _ c.in-None.is c.in_ok-foreign.ensures.fine in
    short_unadopted text most image c.args.stood.journal checkpoint has pipeline made c.args.stood.size
    (subst (λ (rows : List Row). KeepStates (rules_of (last_text checkpoint.eras) pipeline) rows) c.as_slice.ensures (fine (last_text checkpoint.eras))) size c.if-size-checkpoint.true

pub of_checkpoint-requires-clause-states : goal.of_checkpoint-requires-clause-states
of_checkpoint-requires-clause-states c =
    let checkpoint = c.args.stood.checkpoint in
    let pipeline = c.in_ok-pipeline.pipeline in
    let fine = MatchOption-at_none _ _ c.in-None.is c.in_ok-foreign.ensures.fine in
    subst (λ (rows : List Row). KeepStates (rules_of (last_text checkpoint.eras) pipeline) rows) c.as_slice.ensures (fine (last_text checkpoint.eras))
