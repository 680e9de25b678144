use Rattle.std.proofs.Common.{◌≡◌, ◌+◌, ℕ, List, Some, length, ap, sym, subst, ◌∙◌, arith}
use Rattle.std.proofs.lemmas.Result.{err_from_is_err_and}
use Rattle.std.proofs.lemmas.Option.{slice_get-get_or}
use Rattle.lifetimes.proofs.RunLemmas.{Run, run_begins, run_goes_on, run_ends, cant_is, refused_is}
use Rattle.lifetimes.specs.declared.event.Event.{Event}
use Rattle.lifetimes.proofs.run.run_script.Goals as goal

pub returns-in_err-try_settings-clause-fault : goal.returns-in_err-try_settings-clause-fault
returns-in_err-try_settings-clause-fault c =
    let p = err_from_is_err_and c.from_residual.result c.from_residual.ensures.1 in
    rw (p.1, p.2) (refused_is c.args.settings.now c.args.script.now _ c.in_err-try_settings.ensures.refusal)

pub loop-at-init : goal.loop-at-init
loop-at-init c =
    let found = c.in_ok-try_settings.ensures.ok in (
      c.in_ok-life.ensures.ready,
      subst (λ (marks : List ℕ). Run c.args.settings.now c.args.script.now 0 c.in_ok-life.life marks) (sym c.new-marks.ensures.items)
          (run_begins c.args.settings.now c.args.script.now found.0 c.in_ok-life.life found.1 (c.in_ok-life.ensures.begins found.0 found.2) c.in_ok-life.ensures.tree c.in_ok-life.ensures.disk c.in_ok-life.ensures.session),
    )

pub come-requires : goal.come-requires
come-requires c = c.loop-at.invariant.0

pub returns-in_err-come-clause-fault : goal.returns-in_err-come-clause-fault
returns-in_err-come-clause-fault c =
    let run = c.loop-at.invariant.1 in
    let p = err_from_is_err_and c.from_residual-in_err-come.result c.from_residual-in_err-come.ensures.1 in
    rw (p.1, p.2) (cant_is c.args.settings.now c.args.script.now c.loop-at.at c.index-script-at.result run.0 _ _ _ run.1
    (slice_get-get_or c.args.script.now c.loop-at.at c.index-script-at.result c.loop-at-test.true ∙ ap (λ (e : Event). Some e) (sym c.index-script-at.is)) run.2.runs (c.in_err-come.ensures.cant run.0 _ run.1 run.2.life_is))

pub loop-at-preserved : goal.loop-at-preserved
loop-at-preserved c = (
  c.in_ok-come.ensures.ready,
  subst (λ (marks : List ℕ). Run c.args.settings.now c.args.script.now (c.loop-at.at + 1) c.come.new.self marks) (sym c.in_ok-push.ensures.items)
      (run_goes_on c.args.settings.now c.args.script.now c.loop-at.at c.index-script-at.result c.loop-at.life c.come.new.self c.loop-at.marks.items c.events.result c.loop-at-test.true (sym c.index-script-at.is) c.events.ensures
      c.in_ok-come.ensures.came (omega arith) c.loop-at.invariant.1),
)

pub returns-clause-ending : goal.returns-clause-ending
returns-clause-ending c =
    let whole : c.loop-at.at ≡ length c.args.script.now = omega arith in
    let run : Run c.args.settings.now c.args.script.now (length c.args.script.now) c.loop-at.life c.loop-at.marks.items = subst (λ (n : ℕ). Run c.args.settings.now c.args.script.now n c.loop-at.life c.loop-at.marks.items) whole c.loop-at.invariant.1 in
    rw c.ending.ensures (run_ends c.args.settings.now c.args.script.now c.loop-at.life c.loop-at.marks run)
