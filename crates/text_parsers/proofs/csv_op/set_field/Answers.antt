use Rattle.std.proofs.Common.{◌∙◌, ap, List, ℕ}
use Rattle.entry_model.proofs.Data.{datum_text}
use Rattle.entry_model.specs.Datum.{Datum, text}
use Rattle.entry_model.specs.Places.{value_set_at}
use Rattle.entry_model.specs.Seen.{seen}
use Rattle.entry_model.specs.declared.value.Value.{Value}
use Rattle.entry_model.specs.declared.value.Value.TheVariants as value
use Rattle.text_parsers.proofs.Known.{seen_set}
use Rattle.text_parsers.proofs.csv_op.set_field.Goals as goal

pub returns : goal.returns
returns c =
    let old = c.args.members.now.entries in
    let one = value.Text c.in_ok-value.value in
    ap (λ (es : List (List ℕ × Value)). seen es) c.set_at.ensures ∙ seen_set old c.args.at one
    ∙ ap (λ (d : Datum). value_set_at (seen old) c.args.at d) (datum_text c.in_ok-value.value ∙ ap text c.in_ok-value.ensures)
