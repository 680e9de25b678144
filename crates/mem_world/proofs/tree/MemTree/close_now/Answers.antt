use Rattle.std.proofs.Common.{◌<◌, ℕ, sym, subst, not, ◌==◌}
use Rattle.std.proofs.lemmas.List.Elements.{All-filter}
use Rattle.mem_world.specs.TreeHandles.{handles_of}
use Rattle.mem_world.proofs.TreeHanding.{AreBelow}
use Rattle.mem_world.proofs.tree.MemTree.close_now.Goals as goal

pub invariant_of-self : goal.invariant_of-self
invariant_of-self c =
    let begun = c.begin-fails.new.self in
    let kept = All-filter (λ (pair : ℕ × ℕ). not (pair.0 == c.args.handle.0)) (λ (pair : ℕ × ℕ). pair.0 < begun.next) (handles_of begun.handles.items) begun.below in
    record { lawful = begun.lawful; followed = begun.followed; counted = begun.counted; below = subst (AreBelow begun.next) (sym c.close.ensures) kept }
