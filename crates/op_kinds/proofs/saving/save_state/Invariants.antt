use Rattle.std.proofs.Common.{◌≡◌, ◌++◌, take}
use Rattle.op_kinds.specs.States.{states_spelling, HaveSpellings}
use Rattle.op_kinds.proofs.saving.save_state.Given as goal

abbrev pub invariant-loop-state : goal.invariant-loop-state
invariant-loop-state l = record {
  put : l.out.items ≡ l.initial.out.items ++ states_spelling (take l.state-index l.states);
  lawful : HaveSpellings (take l.state-index l.states);
}
