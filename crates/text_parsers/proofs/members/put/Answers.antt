use Rattle.std.proofs.Common.{◌∙◌, ap, sym}
use Rattle.std.specs.BTreeMap.{insert_entry}
use Rattle.std.specs.Cmp.Lexicographic.{slice_cmp}
use Rattle.std.specs.Ordering.{nat_cmp}
use Rattle.entry_model.proofs.Data.{datum_text}
use Rattle.entry_model.specs.Datum.{Datum, text}
use Rattle.entry_model.specs.Seen.{seen}
use Rattle.entry_model.specs.declared.value.Value.TheVariants as value
use Rattle.json_text.proofs.Values.{seen_put}
use Rattle.text_parsers.proofs.members.put.Goals as goal

pub returns : goal.returns
returns c =
    let old = c.args.members.now.entries in
    let one = value.Text c.in_ok-value.value in
    sym (seen_put c.insert.new.self.entries old c.args.key one c.in_ok-insert.ensures)
    ∙ ap (λ (d : Datum). insert_entry (slice_cmp nat_cmp) (seen old) c.args.key d) (datum_text c.in_ok-value.value ∙ ap text c.in_ok-value.ensures)
