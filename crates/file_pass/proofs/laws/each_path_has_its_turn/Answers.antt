use Rattle.file_pass.proofs.Turned.{looks_ascend, looks_among, none_left_out}
use Rattle.file_pass.proofs.laws.each_path_has_its_turn.Goals as goal

pub returns-clause-ascend : goal.returns-clause-ascend
returns-clause-ascend c = λ poll paths step old new taken sorted. looks_ascend paths taken.turns taken.each sorted

pub returns-clause-among : goal.returns-clause-among
returns-clause-among c = λ poll paths step old new taken here there. looks_among paths taken.turns taken.each here there

pub returns-clause-none_left_out : goal.returns-clause-none_left_out
returns-clause-none_left_out c = λ poll paths step old new taken path file there throughout. none_left_out paths taken.turns taken.each old.history new.history taken.own.had_none path file there throughout
