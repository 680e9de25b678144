use Rattle.std.proofs.Common.{◌≡◌, true, false, ap, ap₂, ◌∙◌, ◌||◌, codes}
use Rattle.std.proofs.lemmas.Result.{IfOk-weaker}
use Rattle.clap.specs.Simple.{app_of, new_rule, with_rule}
use Rattle.clap.specs.Walk.{Rule, rule_of}
use Rattle.command_words.specs.Program.{demo}
use Rattle.command_words.proofs.Adding.{one_more}
use Rattle.command_words.proofs.program.program.Goals as goal

pub returns : goal.returns
returns c =
    let own : c.required-rounds.result.global ≡ false = ap (λ x. x.global) c.required-rounds.ensures ∙ c.new.ensures.optional.1 in
    let rule : rule_of c.required-rounds.result ≡ record (new_rule (codes "rounds")) { required = true } =
    ap rule_of c.required-rounds.ensures ∙ ap (λ (r : Rule). record r { required = true }) c.new.ensures.rule in
    let demo_is : app_of c.in_ok-demo.demo ≡ demo = c.in_ok-demo.ensures.shape own ∙ ap₂ with_rule c.new-2.ensures.app rule in
    let local = c.in_ok-demo.ensures.globals ∙ ap₂ (λ x y. x || y) c.new-2.ensures.local own in
    let once = one_more _ _ _ _ _ (c.in_ok-subcommand.ensures.shape c.new-3.ensures.local) c.bare_program.ensures c.new-3.ensures.app in
    let follow = one_more _ _ _ _ _ (c.in_ok-subcommand-2.ensures.shape c.new-4.ensures.local) once c.new-4.ensures.app in
    let adopt = one_more _ _ _ _ _ (c.in_ok-subcommand-3.ensures.shape c.new-5.ensures.local) follow c.new-5.ensures.app in
    let audit = one_more _ _ _ _ _ (c.in_ok-subcommand-4.ensures.shape c.new-6.ensures.local) adopt c.new-6.ensures.app in
    let committed = one_more _ _ _ _ _ (c.in_ok-subcommand-5.ensures.shape c.new-7.ensures.local) audit c.new-7.ensures.app in
    let pipe = one_more _ _ _ _ _ (c.in_ok-subcommand-6.ensures.shape c.new-8.ensures.local) committed c.new-8.ensures.app in
    IfOk-weaker c.subcommand-7.result _ _ (λ new added. one_more _ _ new _ _ (added.shape local) pipe demo_is) c.subcommand-7.ensures
