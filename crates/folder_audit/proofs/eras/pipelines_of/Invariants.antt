use Rattle.folder_audit.proofs.MadeLemmas.{AreMadeSoFar}
use Rattle.folder_audit.proofs.eras.pipelines_of.Given as goal

abbrev pub invariant-loop-text : goal.invariant-loop-text
invariant-loop-text l = AreMadeSoFar l.eras l.pipes.items l.text-index
