use Rattle.std.proofs.Common.{◌++◌, ℕ, List, take, ap, sym, subst, ◌∙◌, arith}
use Rattle.std.proofs.lemmas.List.{flat_map_more, take_all}
use Rattle.op_kinds.specs.Kept.{Kept}
use Rattle.op_kinds.specs.States.{kept_spelling, states_spelling, HaveSpellings}
use Rattle.op_kinds.proofs.States.{one_more_state, have_push}
use Rattle.op_kinds.proofs.saving.save_state.Goals as goal

pub loop-state-preserved : goal.loop-state-preserved
loop-state-preserved c =
    let index = c.loop-state.state-index in
    let states : List Kept = c.args.states.now in
    let grown = one_more_state states index c.state-item.result c.loop-state-test.true (sym c.state-item.is) in
    record {
      put = c.in_ok-save.ensures.ok ∙ ap (λ (t : List ℕ). t ++ kept_spelling c.state-item.result) c.loop-state.invariant.put
          ∙ flat_map_more kept_spelling c.args.out.now.items (take index states) c.state-item.result ∙ ap (λ (ks : List Kept). c.args.out.now.items ++ states_spelling ks) (sym grown);
      lawful = subst HaveSpellings (sym grown) (have_push (take index states) c.state-item.result c.loop-state.invariant.lawful c.in_ok-save.ensures.lawful);
    }

pub returns-clause-lawful : goal.returns-clause-lawful
returns-clause-lawful c = subst HaveSpellings (take_all c.loop-state.state-index c.args.states.now (omega (arith, c.loop-state-test.false))) c.loop-state.invariant.lawful
