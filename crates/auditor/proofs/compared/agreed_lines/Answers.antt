use Rattle.std.proofs.Common.{ℕ, ◌<◌, [], get_or, length, map, List, arith, Bor}
use Rattle.std.proofs.lemmas.List.{length-map}
use Rattle.otlp_json.proofs.Observed.{observed_told}
use Rattle.auditor.specs.Inner.Compared.{made_in, made_of}
use Rattle.auditor.proofs.Agreeing.{none_agree, one_more, no_more, mapped_next, mapped_at}
use Rattle.auditor.proofs.compared.agreed_lines.Goals as goal

abbrev no_text : Bor (List ℕ)
no_text = record { ref_ptr = (0, 0); now = [] }

abbrev text_in : Bor (List ℕ) → List ℕ
text_in line = line.now

pub loop-place-init : goal.loop-place-init
loop-place-init c = none_agree c.args.id (made_in c.args.items.now) (map text_in c.args.own.now)

pub returns-in_default-clause-no_more : goal.returns-in_default-clause-no_more
returns-in_default-clause-no_more c =
    let n = c.loop-place.place in
    let in_items : n < length c.args.items.now = omega (arith, c.loop-place-test.true, c.lesser-most.ensures.lesser) in
    let in_lines : n < length c.args.own.now = omega (arith, c.loop-place-test.true, c.lesser-most.ensures.than_other) in
    no_more c.args.id (made_in c.args.items.now) (map text_in c.args.own.now) n (made_of c.index-items-place.result) (get_or c.args.own.now n no_text).now
    (mapped_next made_of c.args.items.now n c.index-items-place.result in_items c.index-items-place.is) (mapped_at text_in c.args.own.now n no_text in_lines)
    observed_told c.loop-place.last c.loop-place.invariant (rw c.in_default.is at c.in_ok-time.ensures)

pub loop-place-preserved : goal.loop-place-preserved
loop-place-preserved c =
    let n = c.loop-place.place in
    let in_items : n < length c.args.items.now = omega (arith, c.loop-place-test.true, c.lesser-most.ensures.lesser) in
    let in_lines : n < length c.args.own.now = omega (arith, c.loop-place-test.true, c.lesser-most.ensures.than_other) in
    rw c.last_behind-last.ensures
    (one_more c.args.id (made_in c.args.items.now) (map text_in c.args.own.now) n (made_of c.index-items-place.result) (get_or c.args.own.now n no_text).now
    (mapped_next made_of c.args.items.now n c.index-items-place.result in_items c.index-items-place.is) (mapped_at text_in c.args.own.now n no_text in_lines)
    c.loop-place.last c.in-Some.time (omega (arith, in_items, length-map c.args.items.now made_of)) (omega (arith, in_lines, length-map c.args.own.now text_in))
    c.loop-place.invariant (rw c.in-Some.is at c.in_ok-time.ensures))
