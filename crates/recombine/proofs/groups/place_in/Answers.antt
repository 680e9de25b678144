use Rattle.std.proofs.Common.{◌∙◌, ◌+◌, ◌-◌, ap, sym, take, drop, length, arith}
use Rattle.std.proofs.lemmas.List.{take_rest}
use Rattle.recombine.specs.declared.group.OpenGroup.{OpenGroup}
use Rattle.recombine.specs.Sources.{is_of}
use Rattle.recombine.specs.Table.{group_seen, mark_of as mark_of_bytes}
use Rattle.recombine.proofs.TableLemmas.{others_over, others_next, all_others, reaches, ends_at, lengths}
use Rattle.recombine.proofs.groups.place_in.Goals as goal

pub bounds-groups-place : goal.bounds-groups-place
bounds-groups-place c =
    reaches c.args.source.now c.args.groups.now c.args.marks.now c.requires c.places.from c.mark_of-mark.result (take (length c.args.marks.now - c.places.from) (drop c.places.from c.args.marks.now)) (take_rest c.args.marks.now c.places.from)
    (c.mark_of-mark.ensures ∙ ap mark_of_bytes (c.as_bytes.ensures.value ∙ c.as_str.ensures)) c.places.invariant.others c.in-Some.step c.in-Some.ensures.0.high

pub returns-then-eq : goal.returns-then-eq
returns-then-eq c =
    let in_range = reaches c.args.source.now c.args.groups.now c.args.marks.now c.requires c.places.from c.mark_of-mark.result (take (length c.args.marks.now - c.places.from) (drop c.places.from c.args.marks.now)) (take_rest c.args.marks.now c.places.from)
    (c.mark_of-mark.ensures ∙ ap mark_of_bytes (c.as_bytes.ensures.value ∙ c.as_str.ensures)) c.places.invariant.others c.in-Some.step c.in-Some.ensures.0.high in
    record {
      group = c.index-groups-place.result;
      in_range = in_range;
      is = c.index-groups-place.is;
      own = sym (ap (λ (o : OpenGroup). is_of c.args.source.now (group_seen o)) c.deref.ensures) ∙ sym c.eq.ensures ∙ c.if-eq.true;
      before = others_over c.args.source.now c.args.groups.now c.args.marks.now c.requires c.places.from c.mark_of-mark.result (take (length c.args.marks.now - c.places.from) (drop c.places.from c.args.marks.now)) (take_rest c.args.marks.now c.places.from)
          (c.mark_of-mark.ensures ∙ ap mark_of_bytes (c.as_bytes.ensures.value ∙ c.as_str.ensures)) c.places.invariant.others c.in-Some.step (omega (arith, in_range)) c.in-Some.ensures.0.before;
    }

pub places-preserved : goal.places-preserved
places-preserved c =
    let in_range = reaches c.args.source.now c.args.groups.now c.args.marks.now c.requires c.places.from c.mark_of-mark.result (take (length c.args.marks.now - c.places.from) (drop c.places.from c.args.marks.now)) (take_rest c.args.marks.now c.places.from)
    (c.mark_of-mark.ensures ∙ ap mark_of_bytes (c.as_bytes.ensures.value ∙ c.as_str.ensures)) c.places.invariant.others c.in-Some.step c.in-Some.ensures.0.high in
    record {
      within = omega (arith, in_range, lengths c.args.groups.now c.args.marks.now c.requires);
      others = others_next c.args.source.now c.args.groups.now (c.places.from + c.in-Some.step) c.index-groups-place.result in_range c.index-groups-place.is (sym (ap (λ (o : OpenGroup). is_of c.args.source.now (group_seen o)) c.deref.ensures) ∙ sym c.eq.ensures ∙ c.if-eq.false)
          (others_over c.args.source.now c.args.groups.now c.args.marks.now c.requires c.places.from c.mark_of-mark.result (take (length c.args.marks.now - c.places.from) (drop c.places.from c.args.marks.now)) (take_rest c.args.marks.now c.places.from)
          (c.mark_of-mark.ensures ∙ ap mark_of_bytes (c.as_bytes.ensures.value ∙ c.as_str.ensures)) c.places.invariant.others c.in-Some.step (omega (arith, in_range)) c.in-Some.ensures.0.before);
    }

pub returns : goal.returns
returns c =
    let end = ends_at c.args.source.now c.args.groups.now c.args.marks.now c.requires c.places.from c.mark_of-mark.result (take (length c.args.marks.now - c.places.from) (drop c.places.from c.args.marks.now)) (take_rest c.args.marks.now c.places.from)
    (c.mark_of-mark.ensures ∙ ap mark_of_bytes (c.as_bytes.ensures.value ∙ c.as_str.ensures)) c.places.invariant.others c.places.invariant.within in
    all_others c.args.source.now c.args.groups.now (c.places.from + length (take (length c.args.marks.now - c.places.from) (drop c.places.from c.args.marks.now))) (omega (arith, end))
    (others_over c.args.source.now c.args.groups.now c.args.marks.now c.requires c.places.from c.mark_of-mark.result (take (length c.args.marks.now - c.places.from) (drop c.places.from c.args.marks.now)) (take_rest c.args.marks.now c.places.from)
    (c.mark_of-mark.ensures ∙ ap mark_of_bytes (c.as_bytes.ensures.value ∙ c.as_str.ensures)) c.places.invariant.others (length (take (length c.args.marks.now - c.places.from) (drop c.places.from c.args.marks.now))) (omega (arith, end)) c.in_default.ensures)
