use Rattle.std.proofs.Common.{◌≡◌, ap, ◌∙◌}
use Rattle.std.proofs.lemmas.Result.{IfOk-weaker}
use Rattle.entry_model.specs.ByName.{ByName}
use Rattle.entry_model.specs.Seen.{seen, unset_of}
use Rattle.entry_model.specs.declared.value.Value.{Value}
use Rattle.text_parsers.specs.Inner.Known.{unset_with}
use Rattle.text_parsers.proofs.Known.{unset_again}
use Rattle.text_parsers.proofs.known_names.KnownNames.unset.Goals as goal

pub returns : goal.returns
returns c =
    let known = c.self.inside in
    let all = ap unset_of (c.self.invariant.unset_is ∙ ap unset_with c.self.view_is) ∙ unset_again c.args.self.now in
    IfOk-weaker c.unset_fields.result (λ (m : ByName Value). seen m.entries ≡ unset_of (seen known.unset.entries)) (λ (m : ByName Value). seen m.entries ≡ unset_with c.args.self.now) (λ m e. e ∙ all) c.unset_fields.ensures
