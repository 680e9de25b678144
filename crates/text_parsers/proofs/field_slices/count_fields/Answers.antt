use Rattle.std.proofs.Common.{◌≡◌, ◌+◌, ◌<◌, [], ◌∷◌, ap, length, arith, length-drop}
use Rattle.std.proofs.lemmas.List.{take_rest}
use Rattle.text_parsers.proofs.FirstFields.{one_field_more, last_field}
use Rattle.text_parsers.proofs.field_slices.count_fields.Goals as goal

pub returns-then-end-rest : goal.returns-then-end-rest
returns-then-end-rest c =
    let one = last_field c.args.delimiter c.fields.rest.now c.in_ok-end.end c.in_ok-end.ensures.field c.if-end-rest.true in
    let all = c.fields.invariant.fields (one.0 ∷ []) one.1 in
    let counted : c.fields.count + 1 ≡ length all.0 + 1 = all.2 in
    (all.0, all.1, omega arith)

pub fields-preserved : goal.fields-preserved
fields-preserved c =
    let rest = c.fields.rest.now in
    let end = c.in_ok-end.end in
    let few = c.fields.invariant.few in
    let within = c.in_ok-end.ensures.within in
    let inside : end < length rest = omega arith in
    let behind = take_rest rest (end + 1) in
    record {
      few = omega (arith, ap length behind, length-drop (end + 1) rest);
      fields = λ left are.
          (let one = one_field_more c.args.delimiter rest _ end left c.requires c.in_ok-end.ensures.field inside c.if-rest-end.false behind are in
          let all = c.fields.invariant.fields (one.0 ∷ left) one.1 in
          let counted : c.fields.count + length (one.0 ∷ left) ≡ length all.0 + 1 = all.2 in
          (all.0, all.1, omega arith));
    }
