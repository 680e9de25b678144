use Rattle.std.proofs.Common.{◌∙◌, ap}
use Rattle.glob_match.specs.declared.matching.Front.TheVariants as front
use Rattle.glob_match.specs.Inner.Walked.{names_left}
use Rattle.glob_match.proofs.Walks.{found_front, below_more}
use Rattle.glob_match.proofs.matching.find_front.Goals as goal

pub returns-in-Whole : goal.returns-in-Whole
returns-in-Whole c = found_front c.args.components.now (names_left c.args.names) (names_left c.loop-others.left) front.Whole c.loop-others.invariant (λ e. cc e) c.in-Whole.ensures

pub returns-in-Folders : goal.returns-in-Folders
returns-in-Folders c = found_front c.args.components.now (names_left c.args.names) (names_left c.loop-others.left) (front.Folders c.in-Folders.others c.in-Folders.rest) c.loop-others.invariant (λ e. cc e) c.in-Folders.ensures

pub loop-others-preserved : goal.loop-others-preserved
loop-others-preserved c =
    let left = ap names_left c.in-Some.is ∙ c.split.ensures in
    let same = below_more c.args.components.now c.split.result.0.now (names_left c.loop-others.left) (names_left c.split.result.1) left c.in-Other.ensures in
    ((λ fits. same.0 (c.loop-others.invariant.0 fits)), (λ fits. c.loop-others.invariant.1 (same.1 fits)))
