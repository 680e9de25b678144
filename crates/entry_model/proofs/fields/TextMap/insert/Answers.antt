use Rattle.entry_model.proofs.Places.{stands_within, stands_inserted}
use Rattle.entry_model.proofs.fields.TextMap.insert.Goals as goal

pub value_mut-requires : goal.value_mut-requires
value_mut-requires g c = stands_within c.args.name c.args.self.now.entries c.in-Ok.at c.in-Ok.ensures.found

pub returns-in-Ok-clause-entries : goal.returns-in-Ok-clause-entries
returns-in-Ok-clause-entries g c = stands_inserted c.args.name c.args.self.now.entries c.in-Ok.at c.args.value c.in-Ok.ensures.found
