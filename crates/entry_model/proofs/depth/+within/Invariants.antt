use Rattle.std.proofs.Common.{◌≤◌, ◌↔◌, drop, map}
use Rattle.entry_model.specs.Datum.{datum, items_of, members_of}
use Rattle.entry_model.specs.Lawful.{items_nesting, members_nesting, AreLawful, AreLawfulMembers}
use Rattle.entry_model.specs.Seen.{seen}
use Rattle.entry_model.proofs.depth.+within.Given as goal

abbrev pub invariant-values_within-loop-value : goal.invariant-values_within-loop-value
invariant-values_within-loop-value l = record {
  depth : (items_nesting (items_of (map datum (drop l.value-index l.value-items))) ≤ l.levels) ↔ (items_nesting (items_of (map datum l.value-items)) ≤ l.levels);
  lawful : AreLawful (items_of (map datum (drop l.value-index l.value-items))) → AreLawful (items_of (map datum l.value-items));
}

abbrev pub invariant-fields_within-loop-key : goal.invariant-fields_within-loop-key
invariant-fields_within-loop-key l = record {
  depth : (members_nesting (members_of (seen (drop l.key-index l.key-items))) ≤ l.levels) ↔ (members_nesting (members_of (seen l.key-items)) ≤ l.levels);
  lawful : AreLawfulMembers (members_of (seen (drop l.key-index l.key-items))) → AreLawfulMembers (members_of (seen l.key-items));
}
