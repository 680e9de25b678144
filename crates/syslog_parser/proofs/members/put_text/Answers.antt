use Rattle.entry_model.specs.Datum.{text}
use Rattle.entry_model.specs.declared.value.Value.TheVariants as value
use Rattle.entry_model.proofs.Data.{datum_text}
use Rattle.syslog_parser.proofs.Putting.{seen_put}
use Rattle.syslog_parser.proofs.members.put_text.Goals as goal

pub returns : goal.returns
returns c =
    seen_put c.insert.new.self.entries c.args.members.now.entries c.in_ok-name.name c.args.name.now (value.Text c.args.value) (text c.args.value)
    c.in_ok-insert.ensures c.in_ok-name.ensures (datum_text c.args.value)
