use Rattle.entry_model.specs.Seen.{seen}
use Rattle.entry_model.specs.Datum.{fields, members_of}
use Rattle.entry_model.specs.declared.value.Value.TheVariants as value
use Rattle.entry_model.proofs.Data.{datum_map}
use Rattle.syslog_parser.proofs.Putting.{seen_put}
use Rattle.syslog_parser.proofs.members.put_map.Goals as goal

pub returns : goal.returns
returns c =
    seen_put c.insert.new.self.entries c.args.members.now.entries c.in_ok-name.name c.args.name.now (value.Map c.args.value) (fields (members_of (seen c.args.value.entries)))
    c.in_ok-insert.ensures c.in_ok-name.ensures (datum_map c.args.value)
