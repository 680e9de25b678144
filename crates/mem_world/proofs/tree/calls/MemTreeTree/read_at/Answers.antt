use Rattle.std.proofs.Common.{ap, ℕ, List}
use Rattle.std.specs.Prelude.{Some, Option}
use Rattle.outside.specs.Reading.{Reads}
use Rattle.mem_world.specs.MemTree.{state_of}
use Rattle.mem_world.proofs.TreeTelling.{told_change, told_plan_same}
use Rattle.mem_world.proofs.TreeMoves.{reads_world, reads_cause, reads_taken, reads_widest, reads_listed}
use Rattle.mem_world.proofs.tree.calls.MemTreeTree.read_at.Goals as goal

pub returns-clause-history : goal.returns-clause-history
returns-clause-history c = told_change (Reads c.args.handle.0 c.args.offset c.read_now.new.buf c.read_now.result) (state_of c.args.self.now) (state_of c.read_now.new.self) (reads_widest c.args.handle.0 c.args.offset c.read_now.new.buf c.read_now.result (state_of c.args.self.now) (state_of c.read_now.new.self) c.read_now.ensures.calls).3 (reads_world c.args.handle.0 c.args.offset c.read_now.new.buf c.read_now.result (state_of c.args.self.now) (state_of c.read_now.new.self) c.read_now.ensures.calls)

pub returns-clause-cause : goal.returns-clause-cause
returns-clause-cause c = reads_cause c.args.handle.0 c.args.offset c.read_now.new.buf c.read_now.result (state_of c.args.self.now) (state_of c.read_now.new.self) c.read_now.ensures.calls

pub returns-clause-taken : goal.returns-clause-taken
returns-clause-taken c = reads_taken c.args.handle.0 c.args.offset c.read_now.new.buf c.read_now.result (state_of c.args.self.now) (state_of c.read_now.new.self) c.read_now.ensures.calls

pub returns-clause-widest : goal.returns-clause-widest
returns-clause-widest c = let some : ℕ → Option ℕ = λ n. Some n in ap some (reads_widest c.args.handle.0 c.args.offset c.read_now.new.buf c.read_now.result (state_of c.args.self.now) (state_of c.read_now.new.self) c.read_now.ensures.calls).0

pub returns-clause-listed : goal.returns-clause-listed
returns-clause-listed c = let some : List (List ℕ) → Option (List (List ℕ)) = λ folders. Some folders in ap some (reads_listed c.args.handle.0 c.args.offset c.read_now.new.buf c.read_now.result (state_of c.args.self.now) (state_of c.read_now.new.self) c.read_now.ensures.calls)

pub returns-clause-plan : goal.returns-clause-plan
returns-clause-plan c = told_plan_same (state_of c.args.self.now) (state_of c.read_now.new.self) (reads_widest c.args.handle.0 c.args.offset c.read_now.new.buf c.read_now.result (state_of c.args.self.now) (state_of c.read_now.new.self) c.read_now.ensures.calls).3 (reads_widest c.args.handle.0 c.args.offset c.read_now.new.buf c.read_now.result (state_of c.args.self.now) (state_of c.read_now.new.self) c.read_now.ensures.calls).1

pub returns-clause-bound : goal.returns-clause-bound
returns-clause-bound c = let some : ℕ → Option ℕ = λ n. Some n in ap some (reads_widest c.args.handle.0 c.args.offset c.read_now.new.buf c.read_now.result (state_of c.args.self.now) (state_of c.read_now.new.self) c.read_now.ensures.calls).2
