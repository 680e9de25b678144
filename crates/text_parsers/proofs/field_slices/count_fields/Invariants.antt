use Rattle.std.proofs.Common.{◌≡◌, ◌≤◌, ◌+◌, ℕ, List, length}
use Rattle.text_parsers.specs.Inner.FieldSlices.{AreFields}
use Rattle.text_parsers.proofs.field_slices.count_fields.Given as goal

abbrev pub invariant-fields : goal.invariant-fields
invariant-fields l = record {
  few : l.count + length l.rest ≤ length l.bytes + 1;
  fields : (left : List (List ℕ)) → AreFields l.delimiter l.rest left → (all : List (List ℕ)) × AreFields l.delimiter l.bytes all × (l.count + length left ≡ length all + 1);
}

abbrev pub decreases-fields : goal.decreases-fields
decreases-fields l = length l.rest
