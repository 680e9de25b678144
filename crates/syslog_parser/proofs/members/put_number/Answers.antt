use Rattle.std.proofs.Common.{◌≡◌, pos, ap, ◌∙◌, arith}
use Rattle.std.proofs.lemmas.Int.{ints}
use mir.Syntax.{w64}
use mir.Val.{to_z}
use Rattle.entry_model.specs.Datum.{int}
use Rattle.entry_model.specs.declared.value.Value.TheVariants as value
use Rattle.entry_model.proofs.Data.{datum_int}
use Rattle.syslog_parser.proofs.Putting.{seen_put}
use Rattle.syslog_parser.proofs.members.put_number.Goals as goal

pub returns : goal.returns
returns c =
    let same : to_z w64 c.args.value ≡ pos c.args.value = omega (arith, ints, c.ranges.value) in
    seen_put c.insert.new.self.entries c.args.members.now.entries c.in_ok-name.name c.args.name.now (value.Int (to_z w64 c.args.value)) (int (pos c.args.value))
    c.in_ok-insert.ensures c.in_ok-name.ensures (datum_int (to_z w64 c.args.value) ∙ ap int same)
