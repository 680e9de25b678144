use Rattle.std.proofs.Common.{ℕ, suc, ◌≡◌, ◌∙◌, ◌+◌, ◌-◌, ◌≤◌, ◌<◌, ◌∷◌, [], List, map, length, subst, sym, ap, inl, inr, false, rules, arith}
use Rattle.std.proofs.lemmas.List.{map_push}
use Rattle.entry_model.specs.Datum.{Datum, datum}
use Rattle.entry_model.specs.Seen.{seen}
use Rattle.json_text.specs.Machine.{state, wants_value, wants_name, opened_list, opened_map, Frame, in_list, in_map}
use Rattle.json_text.specs.Grammar.{Member}
use Rattle.json_text.specs.Reads.{Leads, AroundMember, value_from, value_read_as, member_from}
use Rattle.json_text.proofs.Places.{stands_true, then_refuses, then_reads}
use Rattle.json_text.proofs.Values.{refuses_through, list_closed, list_goes_on, list_stops, map_closed, map_goes_on, map_stops, list_empty, map_empty, list_begun, map_begun, pushed, seen_put, map_put, no_items_in, no_members_in, reads_as, named, value_missing, value_too_deep, value_is_list, value_is_map, value_is_scalar}
use Rattle.json_text.proofs.Steps.{not_blank_at}
use Rattle.json_text.specs.Bytes.{is_blank}
use Rattle.json_text.proofs.reader.+value.Goals as goal

pub items-returns-then-stands : goal.items-returns-then-stands
items-returns-then-stands t c =
    reads_as c.args.text.now c.args.at (c.skip_blanks-end.result + 1) (suc c.args.room) (λ frames. state wants_value (in_list [] ∷ frames) c.args.room) _ _
    (pushed c.push.new.self c.loop-read.values.items c.in-Ok.read.0 c.in_ok-push.ensures.items)
    (list_closed c.args.text.now c.args.at c.loop-read.place c.in-Ok.read.1 c.skip_blanks-end.result c.args.room (datum c.in-Ok.read.0) (map datum c.loop-read.values.items)
    (λ frames. state wants_value (in_list [] ∷ frames) c.args.room) c.loop-read.invariant.leads c.in-Ok.ensures c.skip_blanks-end.ensures (sym c.stands.ensures ∙ c.if-stands.true))

pub items-returns-then-not-stands : goal.items-returns-then-not-stands
items-returns-then-not-stands t c =
    list_stops c.args.text.now c.args.at c.loop-read.place c.in-Ok.read.1 c.skip_blanks-end.result c.args.room (datum c.in-Ok.read.0) (map datum c.loop-read.values.items)
    (λ frames. state wants_value (in_list [] ∷ frames) c.args.room) c.loop-read.invariant.leads c.in-Ok.ensures c.skip_blanks-end.ensures (sym c.stands.ensures ∙ c.if-stands.false)
    (sym c.stands-in-loop-read.ensures ∙ c.if-not-stands.true)

pub items-loop-read-preserved : goal.items-loop-read-preserved
items-loop-read-preserved t c =
    let on = list_goes_on c.args.text.now c.args.at c.loop-read.place c.in-Ok.read.1 c.skip_blanks-end.result c.args.room (datum c.in-Ok.read.0) (map datum c.loop-read.values.items)
    (λ frames. state wants_value (in_list [] ∷ frames) c.args.room) c.loop-read.invariant.leads c.in-Ok.ensures c.skip_blanks-end.ensures
    (sym c.stands-in-loop-read.ensures ∙ c.if-not-stands.false) in
    record {
      within = on.1;
      leads = subst (λ (l : List Datum). Leads {Around = List Frame} c.args.text.now c.args.at (λ frames. state wants_value (in_list [] ∷ frames) c.args.room) (c.skip_blanks-end.result + 1) (λ frames. state wants_value (in_list l ∷ frames) c.args.room))
          (sym (ap (map datum) c.in_ok-push.ensures.items ∙ map_push datum c.loop-read.values.items c.in-Ok.read.0)) on;
    }

pub list-returns-then-stands : goal.list-returns-then-stands
list-returns-then-stands t c =
    reads_as c.args.text.now c.args.at (c.skip_blanks-at.result + 1) (suc c.args.room) (λ frames. state opened_list frames c.args.room) _ _ (no_items_in c.new.result c.new.ensures.items)
    (list_empty c.args.text.now c.args.at c.skip_blanks-at.result c.args.room (let l : c.args.at ≤ length c.args.text.now = omega arith in l) c.skip_blanks-at.ensures (sym c.stands.ensures ∙ c.if-stands.true))

pub list-returns : goal.list-returns
list-returns t c =
    then_reads {Around = List Frame} c.args.text.now c.args.at c.skip_blanks-at.result (λ frames. state opened_list frames c.args.room) (λ frames. state wants_value (in_list [] ∷ frames) c.args.room)
    (value_read_as (suc c.args.room)) c.items.result
    (list_begun c.args.text.now c.args.at c.skip_blanks-at.result c.args.room (let l : c.args.at ≤ length c.args.text.now = omega arith in l) c.skip_blanks-at.ensures (sym c.stands.ensures ∙ c.if-stands.false)) c.items.ensures

pub map-returns-then-stands : goal.map-returns-then-stands
map-returns-then-stands t c =
    reads_as c.args.text.now c.args.at (c.skip_blanks-at.result + 1) (suc c.args.room) (λ frames. state opened_map frames c.args.room) _ _ (no_members_in c.new.result c.new.ensures)
    (map_empty c.args.text.now c.args.at c.skip_blanks-at.result c.args.room (let l : c.args.at ≤ length c.args.text.now = omega arith in l) c.skip_blanks-at.ensures (sym c.stands.ensures ∙ c.if-stands.true))

pub map-returns : goal.map-returns
map-returns t c =
    then_reads {Around = List Frame} c.args.text.now c.args.at c.skip_blanks-at.result (λ frames. state opened_map frames c.args.room) (λ frames. state (wants_name []) frames c.args.room)
    (value_read_as (suc c.args.room)) c.members.result
    (map_begun c.args.text.now c.args.at c.skip_blanks-at.result c.args.room (let l : c.args.at ≤ length c.args.text.now = omega arith in l) c.skip_blanks-at.ensures (sym c.stands.ensures ∙ c.if-stands.false)) c.members.ensures

pub members-returns-in-Err : goal.members-returns-in-Err
members-returns-in-Err t c =
    then_refuses {Around = List Frame} c.args.text.now c.args.at c.loop-read.place (λ frames. state (wants_name []) frames c.args.room) (λ frames. state (wants_name (seen c.loop-read.fields.entries)) frames c.args.room)
    c.in-Err.fault c.loop-read.invariant.leads
    (refuses_through {A = AroundMember} {B = List Frame} c.args.text.now c.loop-read.place (λ frames. (seen c.loop-read.fields.entries, frames)) (member_from c.args.room) c.in-Err.fault (c.in-Err.ensures c.args.room))

pub members-value-requires : goal.members-value-requires
members-value-requires t c =
    let name = c.in-Ok.ensures c.args.room in
    (search rules, name.1)

pub members-returns-in-Err-value : goal.members-returns-in-Err-value
members-returns-in-Err-value t c =
    then_refuses {Around = List Frame} c.args.text.now c.args.at c.in-Ok.read.1 (λ frames. state (wants_name []) frames c.args.room)
    (λ frames. state wants_value (in_map (seen c.loop-read.fields.entries) c.in-Ok.read.0 ∷ frames) c.args.room) c.in-Err-value.fault
    (named c.args.text.now c.args.at c.loop-read.place c.in-Ok.read.1 c.args.room (seen c.loop-read.fields.entries) c.in-Ok.read.0 c.loop-read.invariant.leads (c.in-Ok.ensures c.args.room))
    (refuses_through {A = List Frame} {B = List Frame} c.args.text.now c.in-Ok.read.1 (λ frames. in_map (seen c.loop-read.fields.entries) c.in-Ok.read.0 ∷ frames) (value_from c.args.room) c.in-Err-value.fault c.in-Err-value.ensures)

pub members-returns-then-stands : goal.members-returns-then-stands
members-returns-then-stands t c =
    reads_as c.args.text.now c.args.at (c.skip_blanks-end.result + 1) (suc c.args.room) (λ frames. state (wants_name []) frames c.args.room) _ _
    (map_put c.in_ok-members.members c.loop-read.fields.entries c.in-Ok.read.0 c.in-Ok-value.read.0 (c.in_ok-members.ensures ∙ c.in_ok-put.ensures))
    (map_closed c.args.text.now c.args.at c.in-Ok.read.1 c.in-Ok-value.read.1 c.skip_blanks-end.result c.args.room (datum c.in-Ok-value.read.0) (seen c.loop-read.fields.entries) c.in-Ok.read.0
    (λ frames. state (wants_name []) frames c.args.room)
    (named c.args.text.now c.args.at c.loop-read.place c.in-Ok.read.1 c.args.room (seen c.loop-read.fields.entries) c.in-Ok.read.0 c.loop-read.invariant.leads (c.in-Ok.ensures c.args.room))
    c.in-Ok-value.ensures c.skip_blanks-end.ensures (sym c.stands.ensures ∙ c.if-stands.true))

pub members-returns-then-not-stands : goal.members-returns-then-not-stands
members-returns-then-not-stands t c =
    map_stops c.args.text.now c.args.at c.in-Ok.read.1 c.in-Ok-value.read.1 c.skip_blanks-end.result c.args.room (datum c.in-Ok-value.read.0) (seen c.loop-read.fields.entries) c.in-Ok.read.0
    (λ frames. state (wants_name []) frames c.args.room)
    (named c.args.text.now c.args.at c.loop-read.place c.in-Ok.read.1 c.args.room (seen c.loop-read.fields.entries) c.in-Ok.read.0 c.loop-read.invariant.leads (c.in-Ok.ensures c.args.room))
    c.in-Ok-value.ensures c.skip_blanks-end.ensures (sym c.stands.ensures ∙ c.if-stands.false) (sym c.stands-in-loop-read.ensures ∙ c.if-not-stands.true)

pub members-loop-read-smaller : goal.members-loop-read-smaller
members-loop-read-smaller t c =
    let name = c.in-Ok.ensures c.args.room in
    let a : c.loop-read.place ≤ c.in-Ok.read.1 = name.0 in
    let value = c.in-Ok-value.ensures in
    let b : c.in-Ok.read.1 ≤ c.in-Ok-value.read.1 = value.0 in
    let e = c.skip_blanks-end.ensures in
    let on : c.in-Ok-value.read.1 ≤ c.skip_blanks-end.result = omega arith in
    let there = stands_true c.args.text.now c.skip_blanks-end.result 44 (sym c.stands-in-loop-read.ensures ∙ c.if-not-stands.false) in
    let inside : c.skip_blanks-end.result < length c.args.text.now = there.0 in
    let smaller : length c.args.text.now - (c.skip_blanks-end.result + 1) < length c.args.text.now - c.loop-read.place = omega arith in
    smaller

pub members-loop-read-preserved : goal.members-loop-read-preserved
members-loop-read-preserved t c =
    let on = map_goes_on c.args.text.now c.args.at c.in-Ok.read.1 c.in-Ok-value.read.1 c.skip_blanks-end.result c.args.room (datum c.in-Ok-value.read.0) (seen c.loop-read.fields.entries) c.in-Ok.read.0
    (λ frames. state (wants_name []) frames c.args.room)
    (named c.args.text.now c.args.at c.loop-read.place c.in-Ok.read.1 c.args.room (seen c.loop-read.fields.entries) c.in-Ok.read.0 c.loop-read.invariant.leads (c.in-Ok.ensures c.args.room))
    c.in-Ok-value.ensures c.skip_blanks-end.ensures (sym c.stands-in-loop-read.ensures ∙ c.if-not-stands.false) in
    record {
      within = on.1;
      leads = subst (λ (l : List Member). Leads {Around = List Frame} c.args.text.now c.args.at (λ frames. state (wants_name []) frames c.args.room) (c.skip_blanks-end.result + 1) (λ frames. state (wants_name l) frames c.args.room))
          (seen_put c.put.new.fields.entries c.loop-read.fields.entries c.in-Ok.read.0 c.in-Ok-value.read.0 c.in_ok-put.ensures) on;
    }

pub value-returns-in_default : goal.value-returns-in_default
value-returns-in_default t c =
    value_missing c.args.text.now c.args.at c.skip_blanks-at.result c.args.room (let l : c.args.at ≤ length c.args.text.now = omega arith in l) c.skip_blanks-at.ensures c.in_default.ensures.past

pub value-returns-then-room-eq0 : goal.value-returns-then-room-eq0
value-returns-then-room-eq0 t c =
    value_too_deep c.args.text.now c.args.at c.skip_blanks-at.result c.args.room (let l : c.args.at ≤ length c.args.text.now = omega arith in l) c.skip_blanks-at.ensures c.in-Some.byte
    c.in-Some.ensures.within c.in-Some.ensures.is (inl c.if-byte-eq91.true) c.if-room-eq0.true

pub value-returns-then-byte-eq91 : goal.value-returns-then-byte-eq91
value-returns-then-byte-eq91 t c =
    value_is_list c.args.text.now c.args.at c.skip_blanks-at.result c.args.room (let l : c.args.at ≤ length c.args.text.now = omega arith in l) c.skip_blanks-at.ensures
    c.in-Some.ensures.within (c.in-Some.ensures.is ∙ c.if-byte-eq91.true) c.if-room-eq0.false c.list.result c.list.ensures

pub value-returns-then-room-eq0-2 : goal.value-returns-then-room-eq0-2
value-returns-then-room-eq0-2 t c =
    value_too_deep c.args.text.now c.args.at c.skip_blanks-at.result c.args.room (let l : c.args.at ≤ length c.args.text.now = omega arith in l) c.skip_blanks-at.ensures c.in-Some.byte
    c.in-Some.ensures.within c.in-Some.ensures.is (inr c.if-byte-eq123.true) c.if-room-eq0-2.true

pub value-returns-then-byte-eq123 : goal.value-returns-then-byte-eq123
value-returns-then-byte-eq123 t c =
    value_is_map c.args.text.now c.args.at c.skip_blanks-at.result c.args.room (let l : c.args.at ≤ length c.args.text.now = omega arith in l) c.skip_blanks-at.ensures
    c.in-Some.ensures.within (c.in-Some.ensures.is ∙ c.if-byte-eq123.true) c.if-room-eq0-2.false c.map.result c.map.ensures

pub value-scalar-requires-clause-no_blank : goal.value-scalar-requires-clause-no_blank
value-scalar-requires-clause-no_blank t c =
    subst (λ (b : ℕ). is_blank b ≡ false) c.in-Some.ensures.is (not_blank_at c.args.text.now c.args.at c.skip_blanks-at.result c.skip_blanks-at.ensures c.in-Some.ensures.within)

pub value-returns : goal.value-returns
value-returns t c =
    value_is_scalar c.args.text.now c.args.at c.skip_blanks-at.result c.args.room (let l : c.args.at ≤ length c.args.text.now = omega arith in l) c.skip_blanks-at.ensures c.scalar.result c.scalar.ensures
