use Rattle.std.proofs.Common.{drop, map}
use Rattle.entry_model.specs.Datum.{datum, items_of, members_of}
use Rattle.otlp_json.specs.IsOf64Bits.{ItemsHaveIntegers, MembersHaveIntegers}
use Rattle.otlp_json.proofs.integers.+integers.Given as goal

abbrev pub invariant-items_have_integers-loop-value : goal.invariant-items_have_integers-loop-value
invariant-items_have_integers-loop-value l =
    ItemsHaveIntegers (items_of (map datum (drop l.value-index l.value-items))) → ItemsHaveIntegers (items_of (map datum l.value-items))

abbrev pub invariant-members_have_integers-loop-key : goal.invariant-members_have_integers-loop-key
invariant-members_have_integers-loop-key l =
    MembersHaveIntegers (members_of (map (λ field. (field.0, datum field.1)) (drop l._key-index l._key-items))) → MembersHaveIntegers (members_of (map (λ field. (field.0, datum field.1)) l._key-items))
