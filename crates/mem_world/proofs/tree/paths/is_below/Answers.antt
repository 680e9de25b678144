use Rattle.std.proofs.Common.{◌<◌, length, arith}
use Rattle.mem_world.proofs.TreePaths.{below_at}
use Rattle.mem_world.proofs.tree.paths.is_below.Goals as goal

pub returns-then-starts_with : goal.returns-then-starts_with
returns-then-starts_with c =
    let within : length c.args.folder.now < length c.args.path.now = omega arith in
    let same = below_at c.args.folder.now c.args.path.now within in
    rw (same, ← c.starts_with.ensures.value, c.if-starts_with.true)

pub returns-else-starts_with : goal.returns-else-starts_with
returns-else-starts_with c =
    let within : length c.args.folder.now < length c.args.path.now = omega arith in
    let same = below_at c.args.folder.now c.args.path.now within in
    rw (same, ← c.starts_with.ensures.value, c.if-starts_with.false)
