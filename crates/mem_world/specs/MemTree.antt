-- What a tree in memory tells.
use Rattle.std.specs.Prelude.{Some}
use Rattle.outside.specs.TreeMeaning.{TreeMeaning}
use Rattle.mem_world.specs.TreeTold.{TreeState, bound_of, told_world, told_plan}
use Rattle.mem_world.specs.TreeHandles.{handles_of}
use Rattle.mem_world.specs.declared.tree.MemTree.{MemTree}

abbrev pub state_of : MemTree → TreeState
state_of tree = record {
  told = tree.told;
  world = record { history = tree.planned.history; handles = handles_of tree.handles.items };
  waiting = tree.planned.waiting;
  plan = tree.planned.plan;
  faults = tree.failures.count;
  spare = tree.failures.spare;
  failing = tree.failures.calls;
  taken = tree.taken;
  widest = tree.widest;
  listed = tree.listed.items;
}

abbrev pub tree_meaning : TreeMeaning MemTree
tree_meaning = record {
  world = λ tree. told_world (state_of tree);
  plan = λ tree. told_plan (state_of tree);
  faults = λ tree. (state_of tree).faults;
  bound = λ tree. Some (bound_of (state_of tree));
  taken = λ tree. (state_of tree).taken;
  nameless = λ _. 0;
  widest = λ tree. Some (state_of tree).widest;
  listed = λ tree. Some (state_of tree).listed;
}
