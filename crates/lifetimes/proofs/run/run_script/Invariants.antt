use Rattle.lifetimes.proofs.RunLemmas.{Run}
use Rattle.lifetimes.specs.Inner.Life.{IsReadyLife}
use Rattle.lifetimes.proofs.run.run_script.Given as goal

abbrev pub invariant-loop-at : goal.invariant-loop-at
invariant-loop-at l = IsReadyLife l.life × Run l.settings l.script l.at l.life l.marks.items
