use Rattle.std.proofs.Common.{◌≡◌, ◌∙◌, ap, sym, List, ℕ}
use Rattle.std.proofs.lemmas.List.{drop_all}
use Rattle.std.proofs.lemmas.Result.{IfOk-weaker}
use Rattle.entry_model.specs.ByName.{ByName}
use Rattle.entry_model.specs.Seen.{seen}
use Rattle.entry_model.specs.declared.value.Value.{Value}
use Rattle.json_text.specs.Grammar.{put_all}
use Rattle.text_parsers.specs.Inner.Known.{unset_with, nothing_at}
use Rattle.text_parsers.proofs.Known.{one_unset}
use Rattle.text_parsers.proofs.known_names.unset_of.Goals as goal

pub loop-name-preserved : goal.loop-name-preserved
loop-name-preserved c =
    one_unset c.args.names.now c.loop-name.name-index c.name-item.result c.in_ok-key.key c.loop-name.members.entries c.insert.new.self.entries c.loop-name-test.true c.name-item.is
    c.in_ok-key.ensures c.in_ok-insert.ensures
    ∙ c.loop-name.invariant

pub returns : goal.returns
returns c =
    let names = c.args.names.now in
    let old = c.loop-name.members.entries in
    let done : seen old ≡ unset_with names =
    sym (ap (λ (l : List (List ℕ)). put_all (seen old) (nothing_at l)) (drop_all c.loop-name.name-index names c.loop-name-test.false)) ∙ c.loop-name.invariant in
    IfOk-weaker c.finish.result (λ (m : ByName Value). m.entries ≡ old) (λ (m : ByName Value). seen m.entries ≡ unset_with names) (λ m e. ap (λ (es : List (List ℕ × Value)). seen es) e ∙ done) c.finish.ensures
