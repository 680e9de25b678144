use Rattle.std.proofs.Common.{◌≡◌, ◌∙◌, ℕ, List, drop, length, sym, subst, ap, arith}
use Rattle.pipeline.specs.Parts.{settings_of}
use Rattle.pipeline.specs.Searched.{StaysSearched}
use Rattle.standing.specs.AreRules.{AreRules}
use Rattle.file_pass.specs.Fed.{rules_in}
use Rattle.file_pass.proofs.feeding.feed_carried.Goals as goal

pub drop_front-requires : goal.drop_front-requires
drop_front-requires g c =
    let laws : AreRules (rules_in c.args.setup.now) = c.a_pipeline_is_rules.ensures c.args.setup.now.settings.now c.requires.setup.0 in
    omega (arith, c.in_ok-count.ensures.used, laws.tokens.within c.args.feeding.now.carried.items, ap length c.feed_bytes.ensures.carried)

pub returns-clause-searched : goal.returns-clause-searched
returns-clause-searched g c =
    let left = c.drop_front.ensures ∙ ap (λ (bytes : List ℕ). drop c.in_ok-count.count bytes) c.feed_bytes.ensures.carried in
    subst (λ (bytes : List ℕ). StaysSearched (settings_of c.args.setup.now.pipeline.now) bytes c.feed_bytes.new.feeding.searched) (sym left) c.in_ok-count.ensures.searched
