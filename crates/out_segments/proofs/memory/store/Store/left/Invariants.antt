use Rattle.out_segments.proofs.CrashTearing.{Tears}
use Rattle.out_segments.proofs.memory.store.Store.left.Given as goal

abbrev pub invariant-loop-entry : goal.invariant-loop-entry
invariant-loop-entry l = Tears l.tear l.file l.self.log.items l.entry-index l.shown.items l.left.items
