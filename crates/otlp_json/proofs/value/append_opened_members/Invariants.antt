use Rattle.std.proofs.Common.{◌≡◌, ◌++◌, drop, map}
use Rattle.entry_model.specs.Datum.{datum, members_of}
use Rattle.otlp_json.specs.HasFront.{HasFront}
use Rattle.otlp_json.proofs.Opened.{opened}
use Rattle.otlp_json.proofs.value.append_opened_members.Given as goal

abbrev pub invariant-loop-key : goal.invariant-loop-key
invariant-loop-key l = record {
  front : HasFront l.initial.out.items l.out.items;
  so_far : l.out.items ++ opened l.front (members_of (map (λ field. (field.0, datum field.1)) (drop l.key-index l.members)))
      ≡ l.initial.out.items ++ opened l.opening (members_of (map (λ field. (field.0, datum field.1)) l.members));
}
