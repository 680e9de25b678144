use Rattle.std.proofs.Common.{ap, ◌∙◌}
use Rattle.outside.specs.World.{bytes, names}
use Rattle.mem_world.specs.TreePlanned.{PlannedWorld}
use Rattle.mem_world.proofs.TreeCutting.{cut_bytes, cut_names}
use Rattle.mem_world.proofs.tree.MemTree.spoil.Goals as goal

pub returns-clause-bytes : goal.returns-clause-bytes
returns-clause-bytes c = λ other.
    ap (λ (w : PlannedWorld). bytes w.history other) c.cut.ensures ∙ cut_bytes c.args.file.0 c.args.size c.args.self.now.planned.history other

pub returns-clause-names : goal.returns-clause-names
returns-clause-names c =
    ap (λ (w : PlannedWorld). names w.history) c.cut.ensures ∙ cut_names c.args.file.0 c.args.size c.args.self.now.planned.history
