use Rattle.op_kinds.proofs.StateTexts.{refused_is_none, state_is_spelled, spelled_tells}
use Rattle.op_kinds.specs.States.{kinds_of}
use Rattle.pipeline.proofs.Rows.{is_told, one_told}
use Rattle.pipeline.proofs.laws.a_row_tells_its_state.Goals as goal

pub returns-clause-restored : goal.returns-clause-restored
returns-clause-restored c = λ settings_text. is_told c.args.pipeline.now.graph

pub returns-clause-refused : goal.returns-clause-refused
returns-clause-refused c = λ settings_text. refused_is_none (kinds_of c.args.pipeline.now.graph)

pub returns-clause-one : goal.returns-clause-one
returns-clause-one c = one_told c.args.pipeline.now.graph

pub returns-clause-spelled : goal.returns-clause-spelled
returns-clause-spelled c = spelled_tells c.args.pipeline.now.graph

pub returns-clause-spells : goal.returns-clause-spells
returns-clause-spells c = λ settings_text. state_is_spelled (kinds_of c.args.pipeline.now.graph)
