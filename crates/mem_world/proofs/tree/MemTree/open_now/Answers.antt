use Rattle.std.proofs.Common.{◌≡◌, sym, ap, ◌∙◌}
use Rattle.std.specs.Prelude.{Some}
use Rattle.outside.specs.World.{names, file_at}
use Rattle.mem_world.proofs.TreeStoring.{found_named}
use Rattle.mem_world.proofs.tree.MemTree.open_now.Goals as goal

pub hand_out-requires-clause-named : goal.hand_out-requires-clause-named
hand_out-requires-clause-named c =
    let named : file_at (names c.begin.new.self.planned.history) c.args.path.now ≡ Some c.in-Some.file = ap (λ h. file_at (names h) c.args.path.now) (sym c.world-world.ensures) ∙ sym c.file_at.ensures ∙ c.in-Some.is in
    found_named (names c.begin.new.self.planned.history) c.args.path.now c.in-Some.file named
