use Rattle.std.proofs.Common.{◌≡◌, ◌+◌, ◌-◌, ℕ, suc, true, List, ◌∷◌, [], ◌++◌, map, Ok, sym, ap, ◌∙◌, arith}
use Rattle.std.proofs.lemmas.List.{map_push, nil_from_length}
use Rattle.std.proofs.lemmas.Result.{err_from_is_err_and}
use Rattle.entry_model.specs.Datum.{Datum, datum, list, fields, items_of, members_of}
use Rattle.entry_model.specs.Seen.{seen}
use Rattle.entry_model.specs.declared.value.Value.{Value}
use Rattle.entry_model.proofs.Data.{datum_list, datum_map}
use Rattle.state_codec.specs.declared.cursor.Fault.{Fault}
use Rattle.state_codec.specs.Reading.{value_at, list_at, map_at, items_at, members_at, last_key}
use Rattle.state_codec.proofs.Fronts.{with_front, fails_through, fails_at, items_step, items_fail, members_step, inserted_last, seen_push, last_key_push}
use Rattle.state_codec.proofs.Keys.{from_on_true}
use Rattle.state_codec.proofs.Values.{value_empty, value_leaf, value_of_list, value_of_map, value_of_other}
use Rattle.state_codec.proofs.value.+value.Goals as goal

pub read_list-returns-in_err-value : goal.read_list-returns-in_err-value
read_list-returns-in_err-value t c =
    let read = value_at c.args.room in
    let n : ℕ = c.in_ok-count.count - (c.loop.counter + 1) in
    let left : c.in_ok-count.count - c.loop.counter ≡ suc n = omega arith in
    let front : List Datum = map datum c.loop.values.items in
    let fault : Fault = c.in_err-value.field-0.0 in
    let p = err_from_is_err_and c.from_residual-in_err-value.result c.from_residual-in_err-value.ensures.1 in
    rw (p.1, p.2)
    (fails_at fault (with_front front (items_at read (c.in_ok-count.count - c.loop.counter) c.loop.rest.now)) (list_at read c.args.bytes.now) c.loop.invariant
    (rw left (items_fail read front n c.loop.rest.now fault c.in_err-value.ensures)))

pub read_list-loop-preserved : goal.read_list-loop-preserved
read_list-loop-preserved t c =
    let read = value_at c.args.room in
    let n : ℕ = c.in_ok-count.count - (c.loop.counter + 1) in
    let left : c.in_ok-count.count - c.loop.counter ≡ suc n = omega arith in
    let front : List Datum = map datum c.loop.values.items in
    let pushed : map datum c.push.new.self.items ≡ front ++ datum c.in_ok-value.value ∷ [] =
    ap (map datum) c.in_ok-push.ensures.items ∙ map_push datum c.loop.values.items c.in_ok-value.value in
    ap (λ (f : List Datum). with_front f (items_at read n c.in_ok-value.after.now)) pushed
    ∙ sym (items_step read front n c.loop.rest.now c.in_ok-value.after.now (datum c.in_ok-value.value) c.in_ok-value.ensures)
    ∙ ap (λ (k : ℕ). with_front front (items_at read k c.loop.rest.now)) (sym left) ∙ c.loop.invariant

pub read_map-loop-preserved : goal.read_map-loop-preserved
read_map-loop-preserved t c =
    let read = value_at c.args.room in
    let n : ℕ = c.in_ok-count.count - (c.loop.counter + 1) in
    let left : c.in_ok-count.count - c.loop.counter ≡ suc n = omega arith in
    let es : List (List ℕ × Value) = c.loop.fields.entries in
    let front : List (List ℕ × Datum) = seen es in
    let key : List ℕ = c.in_ok-key.key in
    let value : Value = c.in_ok-value.value in
    let is : c.is_last.result ≡ true = grind (arith, c.if-not-is_last.false) in
    let grown : c.insert.new.self.entries ≡ es ++ (key, value) ∷ [] =
    c.in_ok-insert.ensures.entries ∙ inserted_last es key value (from_on_true c.is_last.result is c.is_last.ensures.above) in
    ap (λ (l : List (List ℕ × Value)). with_front (seen l) (members_at read (last_key l) n c.in_ok-value.after.now)) grown
    ∙ ap (λ (f : List (List ℕ × Datum)). with_front f (members_at read (last_key (es ++ (key, value) ∷ [])) n c.in_ok-value.after.now)) (seen_push es key value)
    ∙ ap (λ b. with_front (front ++ (key, datum value) ∷ []) (members_at read b n c.in_ok-value.after.now)) (last_key_push es key value)
    ∙ sym (members_step read front (last_key es) n c.loop.rest.now c.in_ok-key.behind.now c.in_ok-value.after.now key (datum value) c.in_ok-key.ensures (sym c.is_last.ensures.test ∙ is) c.in_ok-value.ensures)
    ∙ ap (λ (k : ℕ). with_front front (members_at read (last_key es) k c.loop.rest.now)) (sym left) ∙ c.loop.invariant

pub read_tagged-returns-then-room-eq0 : goal.read_tagged-returns-then-room-eq0
read_tagged-returns-then-room-eq0 t c = rw (c.if-room-eq0.true, value_leaf c.args.tag c.args.bytes.now) c.read_leaf.ensures

pub read_tagged-returns-in_err-values-in-5 : goal.read_tagged-returns-in_err-values-in-5
read_tagged-returns-in_err-values-in-5 t c =
    let p = err_from_is_err_and c.from_residual.result c.from_residual.ensures.1 in
    rw (p.1, p.2, c.in-5.is, value_of_list c.args.room c.args.bytes.now (omega arith))
    (fails_through c.in_err-values-in-5.field-0.0 (list_at (value_at (c.args.room - 1)) c.args.bytes.now) (λ x. Ok (list (items_of x.0), x.1)) c.in_err-values-in-5.ensures)

pub read_tagged-returns-in_err-fields-in-6 : goal.read_tagged-returns-in_err-fields-in-6
read_tagged-returns-in_err-fields-in-6 t c =
    let p = err_from_is_err_and c.from_residual-in_err-fields-in-6.result c.from_residual-in_err-fields-in-6.ensures.1 in
    rw (p.1, p.2, c.in-6.is, value_of_map c.args.room c.args.bytes.now (omega arith))
    (fails_through c.in_err-fields-in-6.field-0.0 (map_at (value_at (c.args.room - 1)) c.args.bytes.now) (λ x. Ok (fields (members_of x.0), x.1)) c.in_err-fields-in-6.ensures)

pub read_tagged-returns-in_ok-values-in-5 : goal.read_tagged-returns-in_ok-values-in-5
read_tagged-returns-in_ok-values-in-5 t c =
    rw (c.in-5.is, value_of_list c.args.room c.args.bytes.now (omega arith), c.in_ok-values-in-5.ensures)
    (ap (λ (d : Datum). Ok (d, c.in_ok-values-in-5.rest.now)) (sym (datum_list c.in_ok-values-in-5.values)))

pub read_tagged-returns-in_ok-fields-in-6 : goal.read_tagged-returns-in_ok-fields-in-6
read_tagged-returns-in_ok-fields-in-6 t c =
    rw (c.in-6.is, value_of_map c.args.room c.args.bytes.now (omega arith), c.in_ok-fields-in-6.ensures)
    (ap (λ (d : Datum). Ok (d, c.in_ok-fields-in-6.rest.now)) (sym (datum_map c.in_ok-fields-in-6.fields)))

pub read_tagged-returns-in_default : goal.read_tagged-returns-in_default
read_tagged-returns-in_default t c =
    rw (value_of_other c.args.room c.args.tag c.args.bytes.now (λ e. omega (arith, c.in_default)) (λ e. omega (arith, c.in_default))) c.read_leaf-in_default.ensures

pub read_value-returns-in-empty : goal.read_value-returns-in-empty
read_value-returns-in-empty t c = rw (nil_from_length c.args.bytes.now (omega arith)) (value_empty c.args.room)
