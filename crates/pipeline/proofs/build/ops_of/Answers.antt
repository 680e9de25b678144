use Rattle.std.proofs.Common.{◌≡◌, ◌++◌, [], ◌∷◌, length, map, sym, ap, ◌∙◌, arith, length-append, false}
use Rattle.op_kinds.specs.Compiled.{IsCompiledTo}
use Rattle.settings_text.specs.Ids.{is_taken}
use Rattle.pipeline.specs.BuildFaults.{ids_before}
use Rattle.pipeline.proofs.Building.{spec_at, one_more_pair, one_more_id, tested, grown, one_more_fine, refused, all_ids}
use Rattle.pipeline.proofs.build.ops_of.Goals as goal

pub returns-then-not-branch-clause-fault : goal.returns-then-not-branch-clause-fault
returns-then-not-branch-clause-fault c =
    let ids = ids_before c.args.specs.now c.loop-place.place in
    let taken = tested c.loop-place.ids.keys c.as_str.result ids c.in_ok-insert.field-0 c.loop-place.invariant.ids c.in_ok-insert.ensures.added in
    record {
      fine_before = c.loop-place.invariant.fine;
      spec = c.index-specs-place.result;
      there = spec_at c.args.specs.now c.loop-place.place c.index-specs-place.result c.loop-place-test.true c.index-specs-place.is;
      taken = rw (c.if-not-branch.true) at (rw c.as_str.ensures at taken);
    }

pub compile-requires : goal.compile-requires
compile-requires c = c.requires.compilable c.loop-place.place c.index-specs-place.result (spec_at c.args.specs.now c.loop-place.place c.index-specs-place.result c.loop-place-test.true c.index-specs-place.is)

pub returns-in-Err-clause-fault : goal.returns-in-Err-clause-fault
returns-in-Err-clause-fault c =
    let operators = c.args.specs.now in
    let there = spec_at c.args.specs.now c.loop-place.place c.index-specs-place.result c.loop-place-test.true c.index-specs-place.is in
    let taken = tested c.loop-place.ids.keys c.as_str.result (ids_before operators c.loop-place.place) c.in_ok-insert.field-0 c.loop-place.invariant.ids c.in_ok-insert.ensures.added in
    rw c.refusal.ensures (refused operators c.loop-place.place c.index-specs-place.result c.in-Err.cause c.loop-place.invariant.fine there (rw (c.if-not-branch.false) at (rw c.as_str.ensures at taken)) c.in-Err.ensures.cause)

pub loop-place-preserved : goal.loop-place-preserved
loop-place-preserved c =
    let operators = c.args.specs.now in
    let place = c.loop-place.place in
    let spec = c.index-specs-place.result in
    let there = spec_at c.args.specs.now place c.index-specs-place.result c.loop-place-test.true c.index-specs-place.is in
    let taken = tested c.loop-place.ids.keys c.as_str.result (ids_before operators place) c.in_ok-insert.field-0 c.loop-place.invariant.ids c.in_ok-insert.ensures.added in
    let fresh : is_taken c.as_str.result.now (ids_before operators place) ≡ false = rw (c.if-not-branch.false) at taken in
    record {
      many = omega (arith, ap length c.in_ok-push_back-in-Ok.ensures.items, length-append c.loop-place.ops.items (c.in-Ok.op ∷ []), c.loop-place.invariant.many);
      ops = one_more_pair IsCompiledTo c.args.specs.now c.loop-place.ops.items c.push_back.new.self.items spec c.in-Ok.op place c.loop-place.invariant.many c.loop-place.invariant.ops there c.in-Ok.ensures.ok c.in_ok-push_back-in-Ok.ensures.items;
      ids = grown c.loop-place.ids.keys c.insert.new.self.keys c.as_str.result (ids_before operators place) c.loop-place.invariant.ids fresh c.in_ok-insert.ensures.keys ∙ ap (λ id. ids_before operators place ++ id ∷ []) c.as_str.ensures ∙ sym (one_more_id operators place spec there);
      fine = one_more_fine operators place c.loop-place.invariant.fine (record { spec = spec; there = there; new_id = rw c.as_str.ensures at fresh; operator = c.in-Ok.op; compiled = c.in-Ok.ensures.ok });
    }

pub returns-clause-ids : goal.returns-clause-ids
returns-clause-ids c = all_ids c.args.specs.now c.loop-place.place (map (λ id. id.now) c.loop-place.ids.keys) (omega (arith, c.loop-place-test.false)) c.loop-place.invariant.ids

pub returns-clause-ops : goal.returns-clause-ops
returns-clause-ops c = record {
  many = omega (arith, c.loop-place.invariant.many, c.loop-place-test.false);
  each = c.loop-place.invariant.ops;
}

pub returns-clause-fine : goal.returns-clause-fine
returns-clause-fine c = λ k within. c.loop-place.invariant.fine k (omega (arith, within, c.loop-place-test.false))
