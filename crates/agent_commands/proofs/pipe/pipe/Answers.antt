use Rattle.std.proofs.Common.{refl, ◌∙◌, ap}
use Rattle.agent_commands.specs.Pipe.{control_failed, full, no_memory, not_piped, report_failed, too_long, whole}
use Rattle.agent_commands.specs.Status.{status_of}
use Rattle.agent_commands.proofs.pipe.pipe.Goals as goal

pub returns-in-Err-clause-ends : goal.returns-in-Err-clause-ends
returns-in-Err-clause-ends g c = not_piped _ (record { fault = c.in-Err.fault; is = c.refuse.ensures.status ∙ ap status_of c.from.ensures; cause = c.in-Err.ensures.fault; told = rw c.from.ensures at c.refuse.ensures.told; untouched = refl; same_clock = refl })

pub returns-in-Ok-print_lines-clause-ends : goal.returns-in-Ok-print_lines-clause-ends
returns-in-Ok-print_lines-clause-ends g c = whole (record { pipeline = c.in-Ok.pipeline; is_pipeline = c.in-Ok.ensures.made; observed = c.stamp-observed.result; stamp = c.stamp-observed.ensures; told = c.in-Ok-print_lines.ensures.streams })

pub returns-in-Err-Report-clause-ends : goal.returns-in-Err-Report-clause-ends
returns-in-Err-Report-clause-ends g c =
    report_failed (record { pipeline = c.in-Ok.pipeline; is_pipeline = c.in-Ok.ensures.made; observed = c.stamp-observed.result; stamp = c.stamp-observed.ensures; told = rw c.in-Err-Report.field-0-is at c.in-Err-Report.ensures.streams })

pub returns-in-Err-Source-clause-ends : goal.returns-in-Err-Source-clause-ends
returns-in-Err-Source-clause-ends g c =
    let told = rw c.in-Err-Source.field-0-is at c.in-Err-Source.ensures.streams in
    rw c.refuse-in-Err-Source.ensures.status (control_failed (record { pipeline = c.in-Ok.pipeline; is_pipeline = c.in-Ok.ensures.made; observed = c.stamp-observed.result; stamp = c.stamp-observed.ensures; between = _; told = told; fault_told = c.refuse-in-Err-Source.ensures.told }))

pub returns-in-Err-Long-clause-ends : goal.returns-in-Err-Long-clause-ends
returns-in-Err-Long-clause-ends g c =
    let told = rw c.in-Err-Long.field-0-is at c.in-Err-Long.ensures.streams in
    rw c.refuse-in-Err-Long.ensures.status (too_long (record { pipeline = c.in-Ok.pipeline; is_pipeline = c.in-Ok.ensures.made; observed = c.stamp-observed.result; stamp = c.stamp-observed.ensures; between = _; told = told; fault_told = c.refuse-in-Err-Long.ensures.told }))

pub returns-in-Err-Full-clause-ends : goal.returns-in-Err-Full-clause-ends
returns-in-Err-Full-clause-ends g c =
    let told = rw c.in-Err-Full.field-0-is at c.in-Err-Full.ensures.streams in
    rw c.refuse-in-Err-Full.ensures.status (full c.in-Err-Full.length (record { pipeline = c.in-Ok.pipeline; is_pipeline = c.in-Ok.ensures.made; observed = c.stamp-observed.result; stamp = c.stamp-observed.ensures; between = _; told = told; fault_told = c.refuse-in-Err-Full.ensures.told }))

pub returns-clause-ends : goal.returns-clause-ends
returns-clause-ends g c =
    let told = rw c.in-Err-Memory.field-0-is at c.in-Err-Memory.ensures.streams in
    rw c.refuse-in-Err-Memory.ensures.status (no_memory (record { pipeline = c.in-Ok.pipeline; is_pipeline = c.in-Ok.ensures.made; observed = c.stamp-observed.result; stamp = c.stamp-observed.ensures; between = _; told = told; fault_told = c.refuse-in-Err-Memory.ensures.told }))
