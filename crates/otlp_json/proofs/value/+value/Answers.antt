use Rattle.std.proofs.Common.{arith, ◌≤◌, ◌++◌, ◌∙◌, ℕ, List, ap, codes, length}
use Rattle.std.proofs.lemmas.List.{append_assoc}
use Rattle.otlp_json.proofs.Appended.{last_extended, front_kept, front_trans}
use Rattle.entry_model.specs.declared.value.Value.{Value, size-Value}
use Rattle.field_paths.specs.MapOf.{members_seen}
use Rattle.entry_model.proofs.Places.{lighter}
use Rattle.std.proofs.lemmas.Bool.{false≢true}
use Rattle.otlp_json.proofs.Opened.{opened, opened_is, bracketed, all_opened}
use Rattle.entry_model.proofs.Data.{datum_text, datum_list, datum_map}
use Rattle.otlp_json.proofs.value.+value.Goals as goal

pub append_items-returns-in_err-append_value-clause-front : goal.append_items-returns-in_err-append_value-clause-front
append_items-returns-in_err-append_value-clause-front t c =
    let start = c.args.out.now.items in
    let now = c.loop-value.out.items in
    let one = c.append_run.new.out.items in
    let two = c.append_value.new.out.items in
    front_trans start now two c.loop-value.invariant.front (front_kept now one two _ c.in_ok-append_run.ensures.ok c.in_err-append_value.ensures.front)

pub append_fields-returns-in_err-append_member-clause-front : goal.append_fields-returns-in_err-append_member-clause-front
append_fields-returns-in_err-append_member-clause-front t c =
    front_trans c.args.out.now.items c.loop-key.out.items c.append_member.new.out.items c.loop-key.invariant.front c.in_err-append_member.ensures.front

pub append_value-returns-in_ok-append_escaped-in-Text-clause-ok : goal.append_value-returns-in_ok-append_escaped-in-Text-clause-ok
append_value-returns-in_ok-append_escaped-in-Text-clause-ok t c =
    let last = c.extend_from_slice-in-Text-2 in
    rw (c.in-Text.is, datum_text c.in-Text.text)
    (last_extended last.result c.append_escaped.new.out.items last.new.self.items (codes "\"}") _ last.ensures.items
    (rw (c.in_ok-append_escaped-in-Text.ensures.ok, c.in_ok-extend_from_slice-in-Text.ensures.items, c.as_bytes.ensures.value, c.as_str.ensures) (simp append_assoc)))

pub append_value-returns-in_ok-append_items-in-List-clause-ok : goal.append_value-returns-in_ok-append_items-in-List-clause-ok
append_value-returns-in_ok-append_items-in-List-clause-ok t c =
    let last = c.extend_from_slice-in-List-2 in
    rw (c.in-List.is, datum_list c.in-List.values)
    (last_extended last.result c.append_items.new.out.items last.new.self.items (codes "]}}") _ last.ensures.items
    (rw (c.in_ok-append_items-in-List.ensures.ok, c.in_ok-extend_from_slice-in-List.ensures.items) (simp append_assoc)))

pub append_value-returns-in_ok-append_fields-in-Map-clause-ok : goal.append_value-returns-in_ok-append_fields-in-Map-clause-ok
append_value-returns-in_ok-append_fields-in-Map-clause-ok t c =
    let last = c.extend_from_slice-in-Map-2 in
    rw (c.in-Map.is, datum_map c.in-Map.fields)
    (last_extended last.result c.append_fields.new.out.items last.new.self.items (codes "]}}") _ last.ensures.items
    (rw (c.in_ok-append_fields-in-Map.ensures.ok, c.in_ok-extend_from_slice-in-Map.ensures.items) (simp append_assoc)))

pub append_fields-append_member-requires : goal.append_fields-append_member-requires
append_fields-append_member-requires t c =
    let light = lighter size-Value c.members-key-items.result.now c.args.fields.now.entries c.loop-key.key-index c.loop-key-item.result c.members-key-items.ensures.members c.loop-key-test.true c.loop-key-item.is in
    omega (arith, light, c.decreases)

pub append_fields-returns-clause-ok : goal.append_fields-returns-clause-ok
append_fields-returns-clause-ok t c =
    let start = c.args.out.now.items in
    let es = c.members-key-items.result.now in
    let none_left : length es ≤ c.loop-key.key-index = omega (arith, c.loop-key-test.false) in
    all_opened c.loop-key.front.now (codes "[{\"key\":\"") start c.loop-key.out.items es c.loop-key.key-index none_left c.loop-key.invariant.so_far
    ∙ ap (λ (es : List (List ℕ × Value)). start ++ opened (codes "[{\"key\":\"") (members_seen es)) c.members-key-items.ensures.members
    ∙ ap (λ text. start ++ text) (opened_is (codes "[") (members_seen c.args.fields.now.entries))
    ∙ ap (λ text. start ++ text) (bracketed c.args.fields.now.entries (λ none. false≢true (c.if-is_empty.ensures.1 none)))
