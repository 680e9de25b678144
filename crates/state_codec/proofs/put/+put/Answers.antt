use Rattle.std.proofs.Common.{◌<◌, ◌^◌, List, length, map, None, arith}
use Rattle.std.proofs.lemmas.List.{length-map}
use Rattle.entry_model.specs.Datum.{Datum, datum, items_of, members_of}
use Rattle.entry_model.specs.Seen.{seen}
use Rattle.entry_model.proofs.Data.{datum_list, datum_map}
use Rattle.entry_model.specs.Lawful.{KeysAscend}
use Rattle.entry_model.specs.declared.value.Value.{size-Value}
use Rattle.entry_model.proofs.Places.{lighter}
use Rattle.state_codec.specs.Rules.{AreSpellable, AreSpellableMembers}
use Rattle.state_codec.proofs.Counts.{keys_ascend, item_count-items_of, member_count-members_of, length-seen}
use Rattle.state_codec.proofs.PutLemmas.{tagged, both_on_ok}
use Rattle.state_codec.proofs.put.+put.Goals as goal

pub put_value-returns-in_ok-extend_from_slice-in-List-clause-ok : goal.put_value-returns-in_ok-extend_from_slice-in-List-clause-ok
put_value-returns-in_ok-extend_from_slice-in-List-clause-ok t c =
    let ds : List Datum = map datum c.in-List.values.items in
    rw (c.in-List.is, datum_list c.in-List.values, item_count-items_of ds, length-map c.in-List.values.items datum)
    (tagged c.put_list.result _ _ c.put_list.new.out.items _ 5 c.in_ok-extend_from_slice-in-List.ensures.items c.put_list.ensures.ok)

pub put_value-returns-in_ok-extend_from_slice-in-List-clause-lawful : goal.put_value-returns-in_ok-extend_from_slice-in-List-clause-lawful
put_value-returns-in_ok-extend_from_slice-in-List-clause-lawful t c =
    let ds : List Datum = map datum c.in-List.values.items in
    rw (c.in-List.is, datum_list c.in-List.values, item_count-items_of ds, length-map c.in-List.values.items datum)
    (both_on_ok (length c.in-List.values.items < 2 ^ 32) (AreSpellable (items_of ds)) c.put_list.result c.put_list.ensures.short c.put_list.ensures.lawful)

pub put_value-returns-in_ok-extend_from_slice-in-Map-clause-ok : goal.put_value-returns-in_ok-extend_from_slice-in-Map-clause-ok
put_value-returns-in_ok-extend_from_slice-in-Map-clause-ok t c =
    let es = c.in-Map.fields.entries in
    rw (c.in-Map.is, datum_map c.in-Map.fields, member_count-members_of (seen es), length-seen es)
    (tagged c.put_map.result _ _ c.put_map.new.out.items _ 6 c.in_ok-extend_from_slice-in-Map.ensures.items c.put_map.ensures.ok)

pub put_value-returns-in_ok-extend_from_slice-in-Map-clause-lawful : goal.put_value-returns-in_ok-extend_from_slice-in-Map-clause-lawful
put_value-returns-in_ok-extend_from_slice-in-Map-clause-lawful t c =
    let es = c.in-Map.fields.entries in
    rw (c.in-Map.is, datum_map c.in-Map.fields, member_count-members_of (seen es), length-seen es)
    (both_on_ok (length es < 2 ^ 32) (AreSpellableMembers (members_of (seen es)) × KeysAscend None (members_of (seen es))) c.put_map.result c.put_map.ensures.short
    (both_on_ok (AreSpellableMembers (members_of (seen es))) (KeysAscend None (members_of (seen es))) c.put_map.result c.put_map.ensures.lawful c.put_map.ensures.ascend))

pub put_map-returns-clause-ascend : goal.put_map-returns-clause-ascend
put_map-returns-clause-ascend t c = keys_ascend c.args.fields.now.entries c.len.ensures.ordered

pub put_map-put_value-requires : goal.put_map-put_value-requires
put_map-put_value-requires t c =
    let light = lighter size-Value c.members-key-items.result.now c.args.fields.now.entries c.loop-key.key-index c.loop-key-item.result c.members-key-items.ensures.members c.loop-key-test.true c.loop-key-item.is in
    omega (arith, light, c.decreases)
