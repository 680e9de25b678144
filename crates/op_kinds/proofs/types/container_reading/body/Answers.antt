use Rattle.std.specs.Prelude.{codes}
use Rattle.field_paths.proofs.Faults.{one_path}
use Rattle.field_paths.specs.PathText.{IsFaultAt}
use Rattle.op_kinds.specs.Containers.{whole_body}
use Rattle.op_kinds.proofs.PartLemmas.{body_text}
use Rattle.op_kinds.proofs.types.container_reading.body.Goals as goal

pub unreachable-requires : goal.unreachable-requires
unreachable-requires c =
    let fault : IsFaultAt (codes "body") c.in-Err-NotAPath.field-0-0 = rw c.in-Err-NotAPath.field-0-is at c.in-Err-NotAPath.ensures.fault in
    fault.no_path whole_body body_text

pub returns-in-Ok : goal.returns-in-Ok
returns-in-Ok c = one_path _ c.in-Ok.path whole_body c.in-Ok.ensures.ok body_text
