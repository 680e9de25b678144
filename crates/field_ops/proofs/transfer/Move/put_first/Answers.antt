use Rattle.std.proofs.Common.{◌∙◌, ap, sym}
use Rattle.std.specs.Prelude.{Some}
use Rattle.std.proofs.lemmas.Result.{err_from_is_err_and}
use Rattle.entry_model.specs.LogRecord.{log_record}
use Rattle.field_ops.proofs.Moved.{moved_apart, refused_apart, still_there}
use Rattle.field_ops.proofs.transfer.Move.put_first.Goals as goal

pub returns-in_err-set-clause-fault : goal.returns-in_err-set-clause-fault
returns-in_err-set-clause-fault c =
    let found = sym c.in-Some.ensures.value ∙ ap Some (sym c.in_ok-copy.ensures) in
    let p = err_from_is_err_and c.from_residual-in_err-set.result c.from_residual-in_err-set.ensures.1 in
    rw (p.1, p.2)
    (refused_apart c.args.self.now.from c.args.self.now.to _ (log_record c.args.entry.now) c.in-Some.ensures.in_order c.requires found c.in_err-set.field-0.0 c.in_err-set.ensures.not_a_map)

pub returns-in_err-_taken-clause-fault : goal.returns-in_err-_taken-clause-fault
returns-in_err-_taken-clause-fault c =
    let found = sym c.in-Some.ensures.value ∙ ap Some (sym c.in_ok-copy.ensures) in
    let there = still_there c.args.self.now.from c.args.self.now.to _ _ (log_record c.args.entry.now) _ c.requires found c.in_ok-set.ensures.ok in
    absurd (cc (there, c.in_err-_taken.ensures.missing))

pub returns-in_err-_taken-clause-err : goal.returns-in_err-_taken-clause-err
returns-in_err-_taken-clause-err c =
    let found = sym c.in-Some.ensures.value ∙ ap Some (sym c.in_ok-copy.ensures) in
    let there = still_there c.args.self.now.from c.args.self.now.to _ _ (log_record c.args.entry.now) _ c.requires found c.in_ok-set.ensures.ok in
    absurd (cc (there, c.in_err-_taken.ensures.missing))

pub returns-clause-ok : goal.returns-clause-ok
returns-clause-ok c =
    let found = sym c.in-Some.ensures.value ∙ ap Some (sym c.in_ok-copy.ensures) in
    moved_apart c.args.self.now.from c.args.self.now.to _ (log_record c.args.entry.now) _ _ c.in-Some.ensures.in_order c.requires found c.in_ok-set.ensures.ok c.in_ok-_taken.ensures.taken
