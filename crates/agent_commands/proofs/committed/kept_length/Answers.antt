use Rattle.std.proofs.Common.{refl}
use Rattle.std.specs.Prelude.{Some}
use Rattle.agent_commands.proofs.committed.kept_length.Goals as goal

pub returns-in-Some-clause-kept : goal.returns-in-Some-clause-kept
returns-in-Some-clause-kept g c = λ told.
    let found = rw c.in-Some.is at (c.in_ok-checkpoint.ensures.found told) in
    (Some c.in-Some.checkpoint, (c.in-Some.field-0-0, found), refl)
