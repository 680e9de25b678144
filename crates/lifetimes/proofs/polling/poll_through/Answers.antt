use Rattle.std.proofs.Common.{◌+◌, ◌≤◌, Option, Result, sym, subst}
use Rattle.std.specs.Prelude.{IfOk, IfSome}
use Rattle.lifetimes.proofs.PollLemmas.{Answers, few_failed, well_dropped, on_ok, ready_next, goes_on_next, disk_through, later_told, since_told, telling_by}
use Rattle.lifetimes.proofs.TreeLemmas.{tree_polled}
use Rattle.lifetimes.specs.Ended.{history_of}
use Rattle.lifetimes.specs.Inner.Past.{Past, Failures, Waits, GoesOn, IsDiskAt, IsReady, IsTreeAt, IsTreePolled, IsWell, MayPoll, dropped, polled}
use Rattle.mem_world.specs.MemDisk.{faults_of}
use Rattle.lifetimes.specs.declared.fault.ScriptFault.{ScriptFault}
use Rattle.poll_core.specs.declared.session.Session.{Session}
use Rattle.standing.specs.Rules.{Rules}
use Rattle.std.specs.Prelude.{false}
use Rattle.lifetimes.proofs.polling.poll_through.Goals as goal
use Rattle.lifetimes.proofs.polling.poll_through.Goals.{After-next_of}

went : (c : After-next_of) → (waits : Waits) → IsTreeAt waits.plan waits.tree c.args.tree.now → IsTreePolled waits c.args.tree.now c.clear_plans.new.self
went c waits at = tree_polled waits c.args.tree.now c.poll-polled.new.tree c.clear_plans.new.self c.poll-polled.ensures.tree c.tree_keeps_its_terms.ensures.followed c.tree_keeps_its_terms.ensures.bound c.clear_plans.ensures.cleared at

few : (c : After-next_of) → (failures : Failures) → IsWell failures c.args.disk.now → faults_of c.poll-polled.new.disk ≤ faults_of c.args.disk.now + failures.waiting
few c failures before = few_failed failures c.args.disk.now c.poll-polled.new.disk c.poll-polled.ensures.terms.bound c.disk_keeps_its_terms.ensures.bound before

well : (c : After-next_of) → (failures : Failures) → IsWell failures c.args.disk.now → IsWell (dropped failures) c.clear_plans-2.new.self
well c failures before =
    well_dropped failures c.args.disk.now c.poll-polled.new.disk c.clear_plans-2.new.self c.poll-polled.ensures.terms.bound c.disk_keeps_its_terms.ensures.bound c.clear_plans-2.ensures.faults c.clear_plans-2.ensures.bound before

pub returns-clause-ready : goal.returns-clause-ready
returns-clause-ready c =
    subst (λ (answer : Result (Option Session) ScriptFault). IfOk answer (λ next. IfSome next (λ session. IsReady session c.clear_plans-2.new.self))) (sym c.next_of.ensures.value)
    (ready_next c.args.session c.args.tree.now c.poll-polled.new.tree c.args.disk.now c.poll-polled.new.disk c.clear_plans-2.new.self c.poll-polled.result c.clear_plans-2.ensures.history c.poll-polled.ensures.session c.poll-polled.ensures.ok)

pub returns-clause-tree : goal.returns-clause-tree
returns-clause-tree c = went c

pub returns-clause-disk : goal.returns-clause-disk
returns-clause-disk c =
    on_ok ((rules : Rules) (waits : Waits) (past : Past) → MayPoll rules waits past c.args.session c.args.tree.now c.args.disk.now → IsDiskAt rules (polled past (history_of c.clear_plans.new.self) false) (dropped waits.disk) c.clear_plans-2.new.self) c.next_of.result
    (λ rules waits past may.
    let telling = telling_by c.args.tree.now c.poll-polled.new.tree c.poll-polled.ensures.tree may.tree_is.told in
    disk_through rules waits past c.args.session c.args.tree.now c.poll-polled.new.tree c.clear_plans.new.self c.args.disk.now c.poll-polled.new.disk c.clear_plans-2.new.self c.requires may
    c.poll-polled.ensures.crash (since_told c.args.session c.args.tree.now c.poll-polled.new.tree c.args.disk.now c.poll-polled.new.disk telling c.poll-polled.ensures.standing)
    (later_told c.args.tree.now c.poll-polled.new.tree telling c.poll-polled.ensures.tree) (well c waits.disk may.disk_is.well) c.clear_plans-2.ensures.history c.clear_plans.ensures.cleared)

pub returns-clause-goes_on : goal.returns-clause-goes_on
returns-clause-goes_on c =
    let answers : Answers c.args.session c.args.tree.now c.poll-polled.new.tree c.args.disk.now c.poll-polled.new.disk c.poll-polled.result = record {
      ok = c.poll-polled.ensures.ok;
      full = λ size same. c.poll-polled.ensures.full size same;
      worn = λ sequence same. (c.poll-polled.ensures.worn sequence same).1;
      cause = c.poll-polled.ensures.cause;
      leaves = c.poll-polled.ensures.tree;
      lawful = c.tree_keeps_its_terms.ensures.lawful;
    } in
    subst (λ (answer : Result (Option Session) ScriptFault). IfOk answer (λ next. (rules : Rules) (waits : Waits) (past : Past) → MayPoll rules waits past c.args.session c.args.tree.now c.args.disk.now → GoesOn rules waits (history_of c.clear_plans.new.self) c.clear_plans-2.new.self next)) (sym c.next_of.ensures.value)
    (goes_on_next c.settings_give_one_set_of_rules.ensures.rules c.args.session c.args.tree.now c.poll-polled.new.tree c.clear_plans.new.self c.args.disk.now c.poll-polled.new.disk c.clear_plans-2.new.self c.requires (few c) (went c) c.clear_plans.ensures.cleared c.clear_plans-2.ensures.history c.poll-polled.result answers)
