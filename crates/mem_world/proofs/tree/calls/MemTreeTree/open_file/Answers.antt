use Rattle.std.proofs.Common.{ap, ℕ, List}
use Rattle.std.specs.Prelude.{Some, Option}
use Rattle.outside.specs.Opening.{Opens}
use Rattle.mem_world.specs.MemTree.{state_of}
use Rattle.mem_world.proofs.TreeTelling.{told_change, told_plan_same}
use Rattle.mem_world.proofs.TreeMoves.{opens_world, opens_cause, opens_listed, opens_keeps}
use Rattle.mem_world.proofs.tree.calls.MemTreeTree.open_file.Goals as goal

pub returns-clause-history : goal.returns-clause-history
returns-clause-history c = told_change (Opens c.args.path.now c.open_now.result) (state_of c.args.self.now) (state_of c.open_now.new.self) (opens_keeps c.args.path.now c.open_now.result (state_of c.args.self.now) (state_of c.open_now.new.self) c.open_now.ensures.calls).told (opens_world c.args.path.now c.open_now.result (state_of c.args.self.now) (state_of c.open_now.new.self) c.open_now.ensures.calls)

pub returns-clause-cause : goal.returns-clause-cause
returns-clause-cause c = opens_cause c.args.path.now c.open_now.result (state_of c.args.self.now) (state_of c.open_now.new.self) c.open_now.ensures.calls

pub returns-clause-taken : goal.returns-clause-taken
returns-clause-taken c = (opens_keeps c.args.path.now c.open_now.result (state_of c.args.self.now) (state_of c.open_now.new.self) c.open_now.ensures.calls).taken

pub returns-clause-widest : goal.returns-clause-widest
returns-clause-widest c = let some : ℕ → Option ℕ = λ n. Some n in ap some (opens_keeps c.args.path.now c.open_now.result (state_of c.args.self.now) (state_of c.open_now.new.self) c.open_now.ensures.calls).widest

pub returns-clause-listed : goal.returns-clause-listed
returns-clause-listed c = let some : List (List ℕ) → Option (List (List ℕ)) = λ folders. Some folders in ap some (opens_listed c.args.path.now c.open_now.result (state_of c.args.self.now) (state_of c.open_now.new.self) c.open_now.ensures.calls)

pub returns-clause-plan : goal.returns-clause-plan
returns-clause-plan c = told_plan_same (state_of c.args.self.now) (state_of c.open_now.new.self) (opens_keeps c.args.path.now c.open_now.result (state_of c.args.self.now) (state_of c.open_now.new.self) c.open_now.ensures.calls).told (opens_keeps c.args.path.now c.open_now.result (state_of c.args.self.now) (state_of c.open_now.new.self) c.open_now.ensures.calls).plan

pub returns-clause-bound : goal.returns-clause-bound
returns-clause-bound c = let some : ℕ → Option ℕ = λ n. Some n in ap some (opens_keeps c.args.path.now c.open_now.result (state_of c.args.self.now) (state_of c.open_now.new.self) c.open_now.ensures.calls).bound
