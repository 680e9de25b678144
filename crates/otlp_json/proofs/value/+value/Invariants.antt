use Rattle.std.proofs.Common.{◌≡◌, ◌++◌, [], codes, drop, map}
use Rattle.entry_model.specs.Datum.{datum, items_of, members_of}
use Rattle.otlp_json.specs.ValueText.{items_text}
use Rattle.otlp_json.specs.HasFront.{HasFront}
use Rattle.otlp_json.proofs.Opened.{opened}
use Rattle.otlp_json.proofs.value.+value.Given as goal

abbrev pub invariant-append_items-loop-value : goal.invariant-append_items-loop-value
invariant-append_items-loop-value l = record {
  front : HasFront l.initial.out.items l.out.items;
  so_far : l.out.items ++ items_text l.separator (items_of (map datum (drop l.value-index l.value-items)))
      ≡ l.initial.out.items ++ items_text [] (items_of (map datum l.value-items));
}

abbrev pub invariant-append_fields-loop-key : goal.invariant-append_fields-loop-key
invariant-append_fields-loop-key l = record {
  front : HasFront l.initial.out.items l.out.items;
  so_far : l.out.items ++ opened l.front (members_of (map (λ field. (field.0, datum field.1)) (drop l.key-index l.key-items)))
      ≡ l.initial.out.items ++ opened (codes "[{\"key\":\"") (members_of (map (λ field. (field.0, datum field.1)) l.key-items));
}
