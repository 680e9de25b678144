use Rattle.std.proofs.Common.{◌≤◌, ◌<◌, ◌+◌, Option, Result, sym, subst}
use Rattle.std.specs.Prelude.{IfOk, IfErr, IfSome}
use Rattle.lifetimes.proofs.DiskLemmas.{leaves_reopened, leaves_same, passes_same}
use Rattle.lifetimes.proofs.OpenLemmas.{opens_is, ready_opened, refused_open}
use Rattle.lifetimes.proofs.PollLemmas.{few_failed, well_dropped, on_ok}
use Rattle.lifetimes.specs.Inner.Past.{Past, CantOpenBy, Failures, IsDiskAt, IsReady, IsWell, Opens, dropped}
use Rattle.lifetimes.specs.declared.fault.ScriptFault.{ScriptFault}
use Rattle.mem_world.specs.MemDisk.{faults_of}
use Rattle.outside.specs.Count.{last_count}
use Rattle.pipeline.specs.MadeOf.{HasRules}
use Rattle.poll_core.specs.Reopens.{Reopens}
use Rattle.poll_core.specs.declared.session.Session.{Session}
use Rattle.standing.specs.Rules.{Rules}
use Rattle.lifetimes.proofs.opening.open.Goals as goal
use Rattle.lifetimes.proofs.opening.open.Goals.{After-opened_of}

few : (c : After-opened_of) → (failures : Failures) → IsWell failures c.args.disk.now → faults_of c.open-opened.new.disk ≤ faults_of c.args.disk.now + failures.waiting
few c failures well = few_failed failures c.args.disk.now c.open-opened.new.disk c.open-opened.ensures.calls.terms.bound c.disk_keeps_its_terms.ensures.bound well

pub returns-clause-ready : goal.returns-clause-ready
returns-clause-ready c =
    subst (λ (answer : Result (Option Session) ScriptFault). IfOk answer (λ own. IfSome own (λ session. IsReady session c.clear_plans.new.self))) (sym c.opened_of.ensures)
    (ready_opened c.open-opened.new.disk c.clear_plans.new.self c.open-opened.result c.clear_plans.ensures.history c.open-opened.ensures.session c.open-opened.ensures.stands)

pub returns-clause-opened : goal.returns-clause-opened
returns-clause-opened c =
    subst (λ (answer : Result (Option Session) ScriptFault). IfOk answer (λ own. (rules : Rules) (past : Past) (failures : Failures) → HasRules c.args.settings.now rules → IsDiskAt rules past failures c.args.disk.now → failures.most < last_count → Opens rules failures own)) (sym c.opened_of.ensures)
    (opens_is c.settings_give_one_set_of_rules.ensures.rules c.args.settings.now c.args.disk.now c.open-opened.new.disk c.open-opened.result (few (goal.at.returns-clause-opened c).After-opened_of) (record {
      session_is = c.open-opened.ensures.session;
      text_is = c.open-opened.ensures.settings;
      limit = c.open-opened.ensures.limit;
      stands = c.open-opened.ensures.stands;
    }) c.open-opened.ensures.crash c.open-opened.ensures.cause)

pub returns-clause-disk : goal.returns-clause-disk
returns-clause-disk c =
    on_ok ((rules : Rules) (past : Past) (failures : Failures) → IsDiskAt rules past failures c.args.disk.now → IsDiskAt rules past (dropped failures) c.clear_plans.new.self) c.opened_of.result (λ rules past failures at. record {
      leaves = leaves_same rules past c.open-opened.new.disk c.clear_plans.new.self c.clear_plans.ensures.history (leaves_reopened rules past c.args.disk.now c.open-opened.new.disk c.open-opened.ensures.crash at.leaves);
      well = well_dropped failures c.args.disk.now c.open-opened.new.disk c.clear_plans.new.self c.open-opened.ensures.calls.terms.bound c.disk_keeps_its_terms.ensures.bound c.clear_plans.ensures.faults c.clear_plans.ensures.bound at.well;
    })

pub returns-clause-crash : goal.returns-clause-crash
returns-clause-crash c = passes_same Reopens c.args.disk.now c.open-opened.new.disk c.clear_plans.new.self c.clear_plans.ensures.history c.open-opened.ensures.crash

pub returns-clause-cant : goal.returns-clause-cant
returns-clause-cant c =
    subst (λ (answer : Result (Option Session) ScriptFault). IfErr answer (λ fault. (rules : Rules) (past : Past) (failures : Failures) → HasRules c.args.settings.now rules → IsDiskAt rules past failures c.args.disk.now → CantOpenBy c.args.settings.now fault)) (sym c.opened_of.ensures)
    (refused_open c.a_sound_image_is_opened.ensures c.args.settings.now c.args.disk.now c.open-opened.result c.open-opened.ensures.of_settings c.open-opened.ensures.of_contents)
