use Rattle.time_layout.specs.GoDrafts.{name_draft_of}
use Rattle.time_layout.proofs.GoSteps.{taken, not_taken}
use Rattle.time_layout.proofs.go_layouts.NameSketch.take.Goals as goal

pub returns-clause-ok : goal.returns-clause-ok
returns-clause-ok c =
    taken c.take_first.result c.args.text.now c.args.at (name_draft_of c.args.self.now) (name_draft_of c.take_first.new.self) c.requires c.take_first.ensures.ok

pub returns-clause-fault : goal.returns-clause-fault
returns-clause-fault c =
    not_taken c.take_first.result c.args.text.now c.args.at (name_draft_of c.args.self.now) c.requires c.take_first.ensures.fault
