use Rattle.std.proofs.Common.{◌≡◌, ◌++◌, drop, map}
use Rattle.entry_model.specs.Datum.{datum, items_of, members_of}
use Rattle.entry_model.specs.Seen.{seen}
use Rattle.state_codec.specs.Spelling.{items_spelling, members_spelling}
use Rattle.state_codec.specs.Rules.{AreSpellable, AreSpellableMembers}
use Rattle.state_codec.proofs.put.+put.Given as goal

abbrev pub invariant-put_list-loop-value : goal.invariant-put_list-loop-value
invariant-put_list-loop-value l = record {
  so_far : l.out.items ++ items_spelling (items_of (map datum (drop l.value-index l.value-items)))
      ≡ l.initial.out.items ++ items_spelling (items_of (map datum l.value-items));
  lawful : AreSpellable (items_of (map datum (drop l.value-index l.value-items))) → AreSpellable (items_of (map datum l.value-items));
}

abbrev pub invariant-put_map-loop-key : goal.invariant-put_map-loop-key
invariant-put_map-loop-key l = record {
  so_far : l.out.items ++ members_spelling (members_of (seen (drop l.key-index l.key-items))) ≡ l.initial.out.items ++ members_spelling (members_of (seen l.key-items));
  lawful : AreSpellableMembers (members_of (seen (drop l.key-index l.key-items))) → AreSpellableMembers (members_of (seen l.key-items));
}
