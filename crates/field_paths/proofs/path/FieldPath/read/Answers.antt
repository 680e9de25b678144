use Rattle.std.proofs.Common.{◌∙◌, ap, Bool, cond, Some, None}
use Rattle.field_paths.specs.Reader.{state_of}
use Rattle.field_paths.proofs.Faults.{steps_more, fault_within, fault_at_end, path_read, whole_read}
use Rattle.field_paths.proofs.Texts.{name_is_text}
use Rattle.field_paths.proofs.path.FieldPath.read.Goals as goal

pub loop-at-preserved : goal.loop-at-preserved
loop-at-preserved c =
    let taken = λ (b : Bool). cond b (Some (state_of c.step.new.self)) None in
    steps_more c.as_bytes-bytes.result.now c.loop-at.at (state_of c.loop-at.reader) c.loop-at-test.true c.loop-at.invariant
    ∙ c.in_ok-step.ensures ∙ ap taken c.if-not-branch.false

pub returns-then-not-branch-clause-fault : goal.returns-then-not-branch-clause-fault
returns-then-not-branch-clause-fault c =
    let taken = λ (b : Bool). cond b (Some (state_of c.step.new.self)) None in
    rw (← c.as_bytes-bytes.ensures.value)
    (fault_within c.as_bytes-bytes.result.now c.loop-at.at (state_of c.loop-at.reader) c.loop-at-test.true c.loop-at.invariant
    (c.in_ok-step.ensures ∙ ap taken c.if-not-branch.true))

pub returns-then-not-branch-2-clause-fault : goal.returns-then-not-branch-2-clause-fault
returns-then-not-branch-2-clause-fault c =
    let whole = λ (b : Bool). cond b (Some c.end.new.self.names.items) None in
    rw (← c.as_bytes-bytes.ensures.value)
    (fault_at_end c.as_bytes-bytes.result.now (state_of c.loop-at.reader)
    (whole_read c.as_bytes-bytes.result.now c.loop-at.at (state_of c.loop-at.reader) c.loop-at-test.false c.loop-at.auto.at-end c.loop-at.invariant)
    (c.in_ok-end.ensures.names ∙ ap whole c.if-not-branch-2.true))

pub returns-clause-ok : goal.returns-clause-ok
returns-clause-ok c =
    let whole = λ (b : Bool). cond b (Some c.end.new.self.names.items) None in
    rw (← c.as_bytes-bytes.ensures.value, c.in_ok-end.ensures.root)
    (path_read c.as_bytes-bytes.result.now (state_of c.loop-at.reader) c.end.new.self.names.items
    (whole_read c.as_bytes-bytes.result.now c.loop-at.at (state_of c.loop-at.reader) c.loop-at-test.false c.loop-at.auto.at-end c.loop-at.invariant)
    (c.in_ok-end.ensures.names ∙ ap whole c.if-not-branch-2.false))

pub step-requires : goal.step-requires
step-requires c = name_is_text c.as_bytes-bytes.result.now c.loop-at.at (state_of c.loop-at.reader) c.as_bytes-bytes.ensures.utf8 c.loop-at.invariant

pub end-requires : goal.end-requires
end-requires c = name_is_text c.as_bytes-bytes.result.now c.loop-at.at (state_of c.loop-at.reader) c.as_bytes-bytes.ensures.utf8 c.loop-at.invariant
