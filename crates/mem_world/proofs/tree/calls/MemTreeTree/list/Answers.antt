use Rattle.std.proofs.Common.{ap, ℕ, List}
use Rattle.std.specs.Prelude.{Some, Option}
use Rattle.outside.specs.Listing.{Lists}
use Rattle.mem_world.specs.MemTree.{state_of}
use Rattle.mem_world.proofs.TreeTelling.{told_change, told_plan_same}
use Rattle.mem_world.proofs.TreeMoves.{lists_world, lists_cause, lists_nameless, lists_listed, lists_keeps}
use Rattle.mem_world.proofs.tree.calls.MemTreeTree.list.Goals as goal

pub returns-clause-history : goal.returns-clause-history
returns-clause-history c = told_change (Lists c.args.folder.now c.list_now.result) (state_of c.args.self.now) (state_of c.list_now.new.self) (lists_keeps c.args.folder.now c.list_now.result (state_of c.args.self.now) (state_of c.list_now.new.self) c.list_now.ensures).told (lists_world c.args.folder.now c.list_now.result (state_of c.args.self.now) (state_of c.list_now.new.self) c.list_now.ensures)

pub returns-clause-cause : goal.returns-clause-cause
returns-clause-cause c = lists_cause c.args.folder.now c.list_now.result (state_of c.args.self.now) (state_of c.list_now.new.self) c.list_now.ensures

pub returns-clause-nameless : goal.returns-clause-nameless
returns-clause-nameless c = lists_nameless c.args.folder.now c.list_now.result (state_of c.args.self.now) (state_of c.list_now.new.self) c.list_now.ensures

pub returns-clause-taken : goal.returns-clause-taken
returns-clause-taken c = (lists_keeps c.args.folder.now c.list_now.result (state_of c.args.self.now) (state_of c.list_now.new.self) c.list_now.ensures).taken

pub returns-clause-widest : goal.returns-clause-widest
returns-clause-widest c = let some : ℕ → Option ℕ = λ n. Some n in ap some (lists_keeps c.args.folder.now c.list_now.result (state_of c.args.self.now) (state_of c.list_now.new.self) c.list_now.ensures).widest

pub returns-clause-listed : goal.returns-clause-listed
returns-clause-listed c = let some : List (List ℕ) → Option (List (List ℕ)) = λ folders. Some folders in ap some (lists_listed c.args.folder.now c.list_now.result (state_of c.args.self.now) (state_of c.list_now.new.self) c.list_now.ensures)

pub returns-clause-plan : goal.returns-clause-plan
returns-clause-plan c = told_plan_same (state_of c.args.self.now) (state_of c.list_now.new.self) (lists_keeps c.args.folder.now c.list_now.result (state_of c.args.self.now) (state_of c.list_now.new.self) c.list_now.ensures).told (lists_keeps c.args.folder.now c.list_now.result (state_of c.args.self.now) (state_of c.list_now.new.self) c.list_now.ensures).plan

pub returns-clause-bound : goal.returns-clause-bound
returns-clause-bound c = let some : ℕ → Option ℕ = λ n. Some n in ap some (lists_keeps c.args.folder.now c.list_now.result (state_of c.args.self.now) (state_of c.list_now.new.self) c.list_now.ensures).bound
