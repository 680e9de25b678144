use Rattle.std.proofs.Common.{Option}
use Rattle.std.specs.Prelude.{option_map}
use Rattle.expr_lang.specs.TreeOf.{tree_of}
use Rattle.op_kinds.specs.AnyOpView.{act_of}
use Rattle.op_kinds.specs.Inner.Applied.{Effect, IsApplied, effect}
use Rattle.op_kinds.specs.Operator as operator
use Rattle.op_kinds.specs.Operator.{Made}
use Rattle.op_kinds.specs.declared.action.Applied.TheVariants.{Done, Faulty}
use Rattle.op_kinds.proofs.Applying.{was_done, was_dropped, was_sent_on}
use Rattle.op_kinds.proofs.conditional.Conditional.emit.Goals as goal

pub returns-in-Done-clause-state : goal.returns-in-Done-clause-state
returns-in-Done-clause-state c =
    let asked : Option Made = operator.made (option_map tree_of c.args.self.now.condition) (act_of c.args.self.now.action) c.args.state.now c.args.item in
    let e : Effect = effect c.args.state.now c.apply.new.state c.args.out.now.items c.apply.new.out.items in
    let did : IsApplied asked c.args.item e Done = rw c.in-Done.is at c.in_ok-apply.ensures in
    (was_done c.args.self.now.drops_faulty asked c.args.item e did).kept

pub returns-in_ok-push-in-Faulty-clause-state : goal.returns-in_ok-push-in-Faulty-clause-state
returns-in_ok-push-in-Faulty-clause-state c =
    let asked : Option Made = operator.made (option_map tree_of c.args.self.now.condition) (act_of c.args.self.now.action) c.args.state.now c.args.item in
    let e : Effect = effect c.args.state.now c.apply.new.state c.args.out.now.items c.apply.new.out.items in
    let did : IsApplied asked c.args.item e (Faulty c.in-Faulty.item) = rw c.in-Faulty.is at c.in_ok-apply.ensures in
    (was_sent_on c.args.self.now.drops_faulty asked c.args.item c.in-Faulty.item e c.push-then-not-self.new.self.items c.if-not-self.true c.in_ok-push-in-Faulty.ensures.items did).kept

pub returns-in_ok-push-in-Faulty-clause-emits : goal.returns-in_ok-push-in-Faulty-clause-emits
returns-in_ok-push-in-Faulty-clause-emits c =
    let asked : Option Made = operator.made (option_map tree_of c.args.self.now.condition) (act_of c.args.self.now.action) c.args.state.now c.args.item in
    let e : Effect = effect c.args.state.now c.apply.new.state c.args.out.now.items c.apply.new.out.items in
    let did : IsApplied asked c.args.item e (Faulty c.in-Faulty.item) = rw c.in-Faulty.is at c.in_ok-apply.ensures in
    (was_sent_on c.args.self.now.drops_faulty asked c.args.item c.in-Faulty.item e c.push-then-not-self.new.self.items c.if-not-self.true c.in_ok-push-in-Faulty.ensures.items did).out

pub returns-else-not-self-clause-state : goal.returns-else-not-self-clause-state
returns-else-not-self-clause-state c =
    let asked : Option Made = operator.made (option_map tree_of c.args.self.now.condition) (act_of c.args.self.now.action) c.args.state.now c.args.item in
    let e : Effect = effect c.args.state.now c.apply.new.state c.args.out.now.items c.apply.new.out.items in
    let did : IsApplied asked c.args.item e (Faulty c.in-Faulty.item) = rw c.in-Faulty.is at c.in_ok-apply.ensures in
    (was_dropped c.args.self.now.drops_faulty asked c.args.item c.in-Faulty.item e c.if-not-self.false did).kept
